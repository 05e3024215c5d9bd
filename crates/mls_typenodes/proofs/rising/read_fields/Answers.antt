use Rattle.std.proofs.Common.{All, subst}
use Rattle.std.proofs.lemmas.List.{take_all}
use Rattle.std.proofs.lemmas.List.Elements.{All-more}
use Rattle.mls_automaton.specs.Sets.{Rises}
use Rattle.mls_automaton.specs.declared.automaton.FieldSet.{FieldSet}
use Rattle.mls_typenodes.proofs.rising.read_fields.Goals as goal

pub loop-field-preserved : goal.loop-field-preserved
loop-field-preserved c =
    All-more (λ (field : FieldSet). Rises field.set) c.args.fields.now c.loop-field.field-index c.field-item.result c.loop-field-test.true
    c.loop-field.invariant (subst (λ (field : FieldSet). Rises field.set) c.field-item.is c.as_slice.ensures.rises)

pub returns : goal.returns
returns c =
    subst (All (λ (field : FieldSet). Rises field.set)) (take_all c.loop-field.field-index c.args.fields.now c.loop-field-test.false) c.loop-field.invariant
