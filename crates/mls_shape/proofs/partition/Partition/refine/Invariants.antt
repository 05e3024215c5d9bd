use Rattle.std.proofs.Common.{length}
use Rattle.mls_shape.specs.steps.Partitions.{IsPartition, IsRefinement}
use Rattle.mls_shape.proofs.partition.Partition.refine.Given as goal

abbrev pub invariant-loop : goal.invariant-loop
invariant-loop l = IsPartition (length l.parents) l.self × IsRefinement l.parents l.fn.self.blocks.items l.self.blocks.items
