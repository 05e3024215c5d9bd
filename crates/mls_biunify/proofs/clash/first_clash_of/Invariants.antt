use Rattle.mls_solver.specs.steps.FirstClashes.{IsFirstOf, IsPairBelow}
use Rattle.mls_biunify.proofs.clash.first_clash_of.Given as goal

abbrev pub invariant-loop-i : goal.invariant-loop-i
invariant-loop-i l = IsFirstOf l.table.automaton (IsPairBelow l.relation l.i) l.first
