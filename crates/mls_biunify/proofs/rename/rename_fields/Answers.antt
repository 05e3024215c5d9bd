use Rattle.mls_automaton.specs.declared.automaton.FieldSet.{FieldSet}
use Rattle.mls_automaton.specs.steps.Numbers.{KeepsOrder}
use Rattle.mls_automaton.proofs.Renumbered.{at-item}
use Rattle.mls_biunify.specs.steps.Renaming.{number_by}
use Rattle.mls_biunify.proofs.rename.rename_fields.Goals as goal

pub rename_field-requires-clause-order : goal.rename_field-requires-clause-order
rename_field-requires-clause-order c =
    at-item (λ (field : FieldSet). KeepsOrder (number_by c.args.numbers.now) field.set) c.args.fields.now c.field-item.result c.loop-field.field-index c.requires.order c.field-item.is c.loop-field-test.true
