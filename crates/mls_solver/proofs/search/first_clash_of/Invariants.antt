use Rattle.mls_solver.specs.steps.FirstClashes.{IsFirstOf, IsPairBelow}
use Rattle.mls_solver.proofs.search.first_clash_of.Given as goal

abbrev pub invariant-loop-i : goal.invariant-loop-i
invariant-loop-i l = IsFirstOf l.a (IsPairBelow l.found l.i) l.first
