use Rattle.std.specs.BTreeMap.{get}
use Rattle.std.specs.Ordering.{nat_cmp}
use Rattle.mls_parts.specs.steps.Owners.{IsSplit}
use Rattle.mls_parts.proofs.split.split.Given as goal

-- the nodes so far are in their parts
abbrev pub invariant-loop-node : goal.invariant-loop-node
invariant-loop-node l = IsSplit l.owners l.node (get nat_cmp l.parts)
