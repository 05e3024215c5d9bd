use Rattle.std.proofs.Common.{◌∙◌, ap, sym}
use Rattle.std.specs.Prelude.{option_map}
use Rattle.mls_flow.proofs.Needed.{single-set}
use Rattle.mls_subsume.proofs.explore.meet_field.Goals as goal

pub only_pair-requires-clause-special : goal.only_pair-requires-clause-special
only_pair-requires-clause-special c =
    single-set c.args.others.now c.args.field.now.label c.in-Some.set.now c.requires.special (sym c.set_of.ensures ∙ ap (option_map (λ set. set.now)) c.in-Some.is)
