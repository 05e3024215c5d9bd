use Rattle.mls_solver.specs.Rooms.{Holds}
use Rattle.mls_solver.proofs.SolvedFlows.{AreFlowsTo}
use Rattle.mls_solver.proofs.materialise.add_flows.Given as goal

abbrev pub invariant-loop-n : goal.invariant-loop-n
invariant-loop-n l = AreFlowsTo l.a (Holds l.room) l.initial.solved l.n l.solved l.marks
