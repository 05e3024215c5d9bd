use Rattle.std.proofs.Common.{◌≡◌, take}
use Rattle.mls_modules.proofs.first.copy_nodes.Given as goal

-- the nodes so far
abbrev pub invariant-loop-node : goal.invariant-loop-node
invariant-loop-node l = l.copy ≡ take l.node-index l.nodes
