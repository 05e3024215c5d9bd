use Rattle.mls_automaton.specs.declared.automaton.FieldSet.{FieldSet}
use Rattle.mls_automaton.specs.steps.Numbers.{KeepsOrder, number_in}
use Rattle.mls_automaton.proofs.Renumbered.{at-item}
use Rattle.mls_automaton.proofs.renumber.renumber_field_sets.Goals as goal

pub renumber_field-requires : goal.renumber_field-requires
renumber_field-requires c =
    at-item (λ (field : FieldSet). KeepsOrder (number_in c.args.numbers.now) field.set) c.args.fields.now c.field-item.result c.loop-field.field-index c.requires c.field-item.is c.loop-field-test.true
