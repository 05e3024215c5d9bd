use Rattle.std.proofs.Common.{◌++◌, ◌∙◌, length, sym, ap, List}
use Rattle.std.specs.List.{flat_map}
use Rattle.mls_book.specs.declared.book.Field.{Field}
use Rattle.mls_deriv.specs.declared.claim.Pair.{Pair}
use Rattle.mls_pairs.specs.steps.Needs.{field_needs}
use Rattle.mls_pairs.proofs.Choosing.{fields_reason}
use Rattle.mls_pairs.proofs.chosen.by_fields.Goals as goal

pub returns-then-len-as_slice : goal.returns-then-len-as_slice
returns-then-len-as_slice c =
    fields_reason c.args.mode c.args.fields.now c.args.others.now c.push_fields.new.needs
    (c.in_ok-push_fields.ensures ∙ ap (λ (l : List Pair). l ++ flat_map (field_needs c.args.mode c.args.fields.now) c.args.others.now) c.new-reason.ensures)
    (sym c.len.ensures ∙ (c.if-len-as_slice.true ∙ ap (λ (l : List Field). length l) c.as_slice.ensures))
