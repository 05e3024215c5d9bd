use Rattle.mls_automaton.proofs.IndexedFlows.{one-each}
use Rattle.mls_automaton.proofs.automaton.are_single_fields.Goals as goal

pub returns-in-Some : goal.returns-in-Some
returns-in-Some c = one-each _ c.as_slice.result.now c.args.fields.now c.have_one_each.result c.in-Some.is c.as_slice.ensures c.have_one_each.ensures
