use Rattle.mls_solver.specs.Rooms.{Holds}
use Rattle.mls_solver.specs.steps.Settling.{AreChanges}
use Rattle.mls_solver.proofs.Settling.{AreLeft}
use Rattle.mls_solver.proofs.settle.changes.Given as goal

abbrev pub invariant-loop-s : goal.invariant-loop-s
invariant-loop-s l = record {
  changes : AreChanges l.a (Holds l.found) l.all;
  left : AreLeft l.touched.keys l.s-iterator l.all;
}
