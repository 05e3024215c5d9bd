use Rattle.std.proofs.Common.{take}
use Rattle.mls_parts.specs.PosedParts.{HavePosed}
use Rattle.mls_parts.specs.steps.Sharing.{AreShared}
use Rattle.mls_parts.proofs.pose.Posing.pose_nodes.Given as goal

-- the nodes so far, and those of them whose copies are shared
abbrev pub invariant-loop-node : goal.invariant-loop-node
invariant-loop-node l = HavePosed l.nodes l.known.globals l.known.lets l.fn.self l.self (take l.node-index l.part)
    × AreShared l.nodes l.known.globals l.known.lets (take l.node-index l.part) l.shared
