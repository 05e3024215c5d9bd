use Rattle.mls_automaton.proofs.Renumbered.{fields-order}
use Rattle.mls_biunify.specs.steps.Renaming.{number_by}
use Rattle.mls_biunify.proofs.rename.rename_record.Goals as goal

pub rename_fields-requires-clause-order : goal.rename_fields-requires-clause-order
rename_fields-requires-clause-order c =
    fields-order (number_by c.args.numbers.now) c.args.fields.now _ c.as_slice.result.now c.in-Some.is c.as_slice.ensures c.requires.order
