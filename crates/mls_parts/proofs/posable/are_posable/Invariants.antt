use Rattle.std.proofs.Common.{take}
use Rattle.mls_parts.specs.PosedParts.{ArePosable}
use Rattle.mls_parts.proofs.posable.are_posable.Given as goal

-- the nodes so far may be posed
abbrev pub invariant-loop-node : goal.invariant-loop-node
invariant-loop-node l = ArePosable l.binders l.nodes (take l.node-index l.part) l.known.globals l.known.lets
