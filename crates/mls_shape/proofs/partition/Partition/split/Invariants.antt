use Rattle.std.proofs.Common.{◌≤◌, length, take}
use Rattle.mls_shape.specs.steps.Partitions.{IsPartition, PartsNodes}
use Rattle.mls_shape.proofs.partition.Partition.split.Given as goal

abbrev pub invariant-loop-node : goal.invariant-loop-node
invariant-loop-node l =
    IsPartition (length l.fn.self.blocks.items) l.self
    × (length l.fn.self.members.items ≤ length l.self.members.items)
    × PartsNodes l.first (take l.node-index l.nodes) l.fn.self l.self
