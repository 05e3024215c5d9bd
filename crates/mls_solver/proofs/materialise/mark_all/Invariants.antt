use Rattle.std.proofs.Common.{◌≡◌, take}
use Rattle.mls_solver.specs.steps.Numbers.{Inserts}
use Rattle.mls_solver.specs.steps.Numbers.{ByOne}
use Rattle.mls_solver.proofs.materialise.mark_all.Given as goal

abbrev pub invariant-loop-x : goal.invariant-loop-x
invariant-loop-x l = Inserts l.initial.marks l.marks (ByOne (take l.x-index l.numbers) (λ x y. y ≡ x))
