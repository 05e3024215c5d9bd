use Rattle.std.proofs.Common.{take}
use Rattle.mls_solver.specs.Rooms.{Holds}
use Rattle.mls_solver.specs.steps.Numbers.{Inserts, ByOne}
use Rattle.mls_solver.proofs.materialise.mark_above_all.Given as goal

abbrev pub invariant-loop-n : goal.invariant-loop-n
invariant-loop-n l = Inserts l.initial.marks l.marks (ByOne (take l.n-index l.negatives) (λ n p. Holds l.room p n))
