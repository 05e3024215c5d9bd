use Rattle.std.proofs.Common.{ℕ, ◌<◌, get_or}
use Rattle.mls_shape.specs.steps.Upwards.{StandsBehind}
use Rattle.mls_shape.proofs.upwards.are_behind.Given as goal

-- the members so far
abbrev pub invariant-loop-member : goal.invariant-loop-member
invariant-loop-member l = (k : ℕ) → k < l.member-index → StandsBehind l.a l.s (get_or l.member-items k 0)
