use Rattle.mls_shape.specs.steps.Upwards.{AreKeyed, IsLeafBelow}
use Rattle.mls_shape.proofs.upwards.add_leaves.Given as goal

-- those of the first states
abbrev pub invariant-loop-s : goal.invariant-loop-s
invariant-loop-s l = AreKeyed l.a (IsLeafBelow l.a l.s) l.classes.items l.known
