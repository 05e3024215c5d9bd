use Rattle.std.proofs.Common.{◌≡◌, take, length}
use Rattle.std.specs.Prelude.{fold}
use Rattle.mls_flow.specs.steps.Losing.{close}
use Rattle.mls_flow.proofs.standing.lose_uses.Given as goal

abbrev pub invariant-loop-used : goal.invariant-loop-used
invariant-loop-used l =
    (length l.left.items ≡ length l.fn.left.items)
    × (record { left = l.left.items; lost = l.lost.items } ≡ fold close (record { left = l.fn.left.items; lost = l.fn.lost.items }) (take l.used-index l.uses))
