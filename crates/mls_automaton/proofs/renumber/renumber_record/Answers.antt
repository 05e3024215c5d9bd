use Rattle.mls_automaton.specs.steps.Numbers.{number_in}
use Rattle.mls_automaton.proofs.Renumbered.{fields-order}
use Rattle.mls_automaton.proofs.renumber.renumber_record.Goals as goal

pub renumber_field_sets-requires : goal.renumber_field_sets-requires
renumber_field_sets-requires c =
    fields-order (number_in c.args.numbers.now) c.args.fields.now _ c.as_slice.result.now c.in-Some.is c.as_slice.ensures c.requires
