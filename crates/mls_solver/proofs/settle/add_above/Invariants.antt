use Rattle.std.proofs.Common.{◌⊎◌, ℕ, take, Contains}
use Rattle.std.specs.Prelude.{◌↔◌}
use Rattle.mls_solver.specs.Rooms.{Holds}
use Rattle.mls_solver.specs.steps.Numbers.{ByOne}
use Rattle.mls_solver.proofs.settle.add_above.Given as goal

abbrev pub invariant-loop-n : goal.invariant-loop-n
invariant-loop-n l = (j : ℕ) → Contains l.members.items j ↔ Contains l.initial.members.items j ⊎ ByOne (take l.n-index l.negatives) (λ n p. Holds l.found p n) j
