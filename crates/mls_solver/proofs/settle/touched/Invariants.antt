use Rattle.mls_solver.proofs.Settling.{AreTouched}
use Rattle.mls_solver.proofs.settle.touched.Given as goal

abbrev pub invariant-loop-i : goal.invariant-loop-i
invariant-loop-i l = AreTouched l.a l.found l.i l.all.keys
