use Rattle.mls_shape.specs.steps.Upwards.{AreCounted}
use Rattle.mls_shape.proofs.classes.counted.Given as goal

-- the numbers so far
abbrev pub invariant-loop-number : goal.invariant-loop-number
invariant-loop-number l = AreCounted l.number l.numbers.items
