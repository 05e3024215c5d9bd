use Rattle.std.proofs.Common.{take}
use Rattle.mls_solver.specs.Rooms.{Holds}
use Rattle.mls_solver.specs.steps.Numbers.{Inserts, ByOne}
use Rattle.mls_solver.proofs.materialise.mark_below_all.Given as goal

abbrev pub invariant-loop-p : goal.invariant-loop-p
invariant-loop-p l = Inserts l.initial.marks l.marks (ByOne (take l.p-index l.positives) (λ p n. Holds l.room p n))
