use Rattle.mls_shape.specs.steps.Partitions.{AreMembers}
use Rattle.mls_shape.proofs.partition.members_of.Given as goal

abbrev pub invariant-loop-v : goal.invariant-loop-v
invariant-loop-v l = AreMembers l.blocks l.count l.v l.members.items
