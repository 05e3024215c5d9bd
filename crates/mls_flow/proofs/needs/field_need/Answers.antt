use Rattle.std.proofs.Common.{◌∙◌, ap, sym}
use Rattle.std.specs.Prelude.{option_map}
use Rattle.mls_flow.proofs.Needed.{single-length, single-set}
use Rattle.mls_flow.proofs.needs.field_need.Goals as goal

pub get-requires : goal.get-requires
get-requires c =
    single-length c.in-Some.set.now
    (single-set c.args.fields.now c.args.other.now.label c.in-Some.set.now c.requires.lower (sym c.set_of.ensures ∙ ap (option_map (λ set. set.now)) c.in-Some.is))
