use Rattle.std.proofs.Common.{◌≡◌, ◌⊎◌, [], ℕ, take, Contains}
use Rattle.std.specs.Prelude.{◌↔◌}
use Rattle.mls_solver.specs.steps.Numbers.{ByOne}
use Rattle.mls_biunify.proofs.keep.left_of.Given as goal

-- those of the states so far
abbrev pub invariant-loop-s : goal.invariant-loop-s
invariant-loop-s l = (j : ℕ) → Contains l.left j ↔ Contains [] j ⊎ ByOne (take l.s-index l.states) (λ s k. (k ≡ s) × Contains l.found k) j
