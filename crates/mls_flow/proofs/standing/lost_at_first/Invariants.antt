use Rattle.std.proofs.Common.{take}
use Rattle.mls_flow.specs.steps.Losing.{AreLost}
use Rattle.mls_flow.proofs.standing.lost_at_first.Given as goal

abbrev pub invariant-loop-i : goal.invariant-loop-i
invariant-loop-i l = AreLost (take l.i l.left) l.lost.items
