use Rattle.std.proofs.Common.{◌⊎◌, ℕ, take, Contains}
use Rattle.std.specs.Prelude.{◌↔◌}
use Rattle.mls_solver.specs.Rooms.{Holds}
use Rattle.mls_solver.specs.steps.Numbers.{ByOne}
use Rattle.mls_solver.proofs.settle.add_below.Given as goal

abbrev pub invariant-loop-p : goal.invariant-loop-p
invariant-loop-p l = (j : ℕ) → Contains l.members.items j ↔ Contains l.initial.members.items j ⊎ ByOne (take l.p-index l.positives) (λ p n. Holds l.found p n) j
