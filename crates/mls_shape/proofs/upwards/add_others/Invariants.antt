use Rattle.mls_shape.specs.steps.Upwards.{AreKeyed, IsLeafOrLast}
use Rattle.mls_shape.proofs.upwards.add_others.Given as goal

-- those of the last states
abbrev pub invariant-loop-k : goal.invariant-loop-k
invariant-loop-k l = AreKeyed l.a (IsLeafOrLast l.a l.k) l.classes.items l.known
