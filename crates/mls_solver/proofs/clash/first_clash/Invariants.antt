use Rattle.mls_solver.specs.steps.FirstClashes.{IsFirstOf, IsPairBelow}
use Rattle.mls_solver.proofs.clash.first_clash.Given as goal

abbrev pub invariant-loop-i : goal.invariant-loop-i
invariant-loop-i l = IsFirstOf l.a (IsPairBelow l.room l.i) l.first
