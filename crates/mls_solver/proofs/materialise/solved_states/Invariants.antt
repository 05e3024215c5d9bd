use Rattle.std.proofs.Common.{◌≡◌}
use Rattle.mls_solver.specs.Rooms.{Holds}
use Rattle.mls_solver.specs.steps.Solving.{AreSolvedTo}
use Rattle.mls_solver.proofs.materialise.solved_states.Given as goal

abbrev pub invariant-loop-s : goal.invariant-loop-s
invariant-loop-s l = record {
  states : AreSolvedTo l.a (Holds l.room) l.s l.solved;
  limit : l.marks.limit ≡ l.initial.marks.limit;
}
