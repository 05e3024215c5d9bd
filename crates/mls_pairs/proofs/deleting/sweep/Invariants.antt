use Rattle.std.proofs.Common.{◌≤◌, drop, length}
use Rattle.mls_pairs.specs.steps.Deleting.{Sweeps}
use Rattle.mls_pairs.proofs.deleting.sweep.Given as goal

-- the last pairs were looked at
abbrev pub invariant-loop-left : goal.invariant-loop-left
invariant-loop-left l = Sweeps l.book (drop l.left l.pairs) l.fn.table l.table l.is_less × (l.left ≤ length l.pairs)

abbrev pub decreases-loop-left : goal.decreases-loop-left
decreases-loop-left l = l.left
