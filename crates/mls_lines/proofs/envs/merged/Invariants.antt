use Rattle.std.proofs.Common.{◌+◌, ◌-◌, ◌≤◌, length}
use Rattle.mls_lines.proofs.MergedEnvironments.{Completes}
use Rattle.mls_lines.proofs.envs.merged.Given as goal

-- what is left of both comes behind the entries so far
abbrev pub invariant-loop-i : goal.invariant-loop-i
invariant-loop-i l = Completes l.first l.second l.i l.j l.all × (l.i ≤ length l.first) × (l.j ≤ length l.second)

abbrev pub decreases-loop-i : goal.decreases-loop-i
decreases-loop-i l = (length l.first - l.i) + (length l.second - l.j)
