use Rattle.std.proofs.Common.{◌⊎◌, ℕ, take, Contains}
use Rattle.std.specs.Prelude.{◌↔◌}
use Rattle.mls_solver.specs.steps.Numbers.{ByOne}
use Rattle.mls_solver.proofs.Settling.{Self}
use Rattle.mls_solver.proofs.settle.add_all.Given as goal

abbrev pub invariant-loop-number : goal.invariant-loop-number
invariant-loop-number l = (j : ℕ) → Contains l.set j ↔ Contains l.initial.set j ⊎ ByOne (take l.number-index l.numbers) Self j
