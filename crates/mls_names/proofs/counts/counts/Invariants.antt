use Rattle.std.proofs.Common.{◌≡◌, take}
use Rattle.mls_names.specs.steps.Counts.{AreCounts, count_of}
use Rattle.mls_names.proofs.counts.counts.Given as goal

-- the counts so far
abbrev pub invariant-loop-node : goal.invariant-loop-node
invariant-loop-node l = record {
  counts : AreCounts (take l.node-index l.nodes) l.counts.items;
  last : l.count ≡ count_of (take l.node-index l.nodes);
}
