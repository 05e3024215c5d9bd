use Rattle.std.proofs.Common.{◌≡◌, ℕ, ◌<◌}
use Rattle.mls_shape.specs.steps.Classes.{class_in}
use Rattle.mls_shape.proofs.classes.are_apart.Given as goal

-- the states so far have their own numbers
abbrev pub invariant-loop-s : goal.invariant-loop-s
invariant-loop-s l = (k : ℕ) → k < l.s → class_in l.classes k ≡ k
