use Rattle.std.proofs.Common.{subst, sym}
use Rattle.mls_automaton.specs.Automata.{Automaton}
use Rattle.mls_solver.specs.Rooms.{HoldsStates}
use Rattle.mls_parts.proofs.solve.solution_of.Goals as goal

pub settle-requires-clause-states : goal.settle-requires-clause-states
settle-requires-clause-states c = subst (λ (a : Automaton). HoldsStates a c.in_ok-found.found) (sym c.in_ok-automaton.ensures) c.in_ok-found.ensures.states
