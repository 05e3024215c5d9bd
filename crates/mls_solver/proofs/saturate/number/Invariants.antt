use Rattle.mls_solver.specs.steps.Numbering.{AreNumbered}
use Rattle.mls_solver.proofs.saturate.number.Given as goal

abbrev pub invariant-loop-s : goal.invariant-loop-s
invariant-loop-s l = AreNumbered l.a l.initial.room l.s l.room
