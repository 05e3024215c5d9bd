use Rattle.std.proofs.Common.{take}
use Rattle.mls_shape.specs.steps.Partitions.{HoldsInBlock}
use Rattle.mls_shape.proofs.partition.kept_in.Given as goal

abbrev pub invariant-loop-v : goal.invariant-loop-v
invariant-loop-v l = HoldsInBlock l.blocks l.block (take l.v-index l.nodes) l.kept
