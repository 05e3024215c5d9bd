use Rattle.mls_solver.specs.Rooms.{Holds}
use Rattle.mls_solver.specs.steps.Chains.{IsSearched}
use Rattle.mls_solver.proofs.search.close.Given as goal

abbrev pub invariant-loop : goal.invariant-loop
invariant-loop l = IsSearched l.a (Holds l.initial.direct) l.next l.next_direct l.found l.direct
