use Rattle.std.proofs.Common.{◌≤◌}
use Rattle.mls_shape.specs.steps.Upwards.{AreInOrder}
use Rattle.mls_shape.proofs.upwards.in_order.Given as goal

-- the states so far, and no more numbers than states
abbrev pub invariant-loop-s : goal.invariant-loop-s
invariant-loop-s l = AreInOrder l.s l.classes l.known l.ordered.items × (l.next ≤ l.s)
