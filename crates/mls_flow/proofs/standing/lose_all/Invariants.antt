use Rattle.std.proofs.Common.{◌≤◌, ◌-◌, length}
use Rattle.mls_flow.specs.steps.Losing.{AreLosses}
use Rattle.mls_flow.proofs.standing.lose_all.Given as goal

abbrev pub invariant-loop-next : goal.invariant-loop-next
invariant-loop-next l = AreLosses l.claims l.next (record { left = l.left.items; lost = l.lost.items }) × (l.next ≤ length l.lost.items)

abbrev pub decreases-loop-next : goal.decreases-loop-next
decreases-loop-next l = length l.claims - l.next
