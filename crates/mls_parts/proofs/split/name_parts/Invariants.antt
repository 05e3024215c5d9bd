use Rattle.std.specs.BTreeMap.{get}
use Rattle.std.specs.Ordering.{nat_cmp}
use Rattle.mls_parts.specs.steps.Owners.{IsNamed}
use Rattle.mls_parts.proofs.split.name_parts.Given as goal

-- the lets so far are noted
abbrev pub invariant-loop-node : goal.invariant-loop-node
invariant-loop-node l = IsNamed l.nodes l.node-index (get nat_cmp l.initial.parts) (get nat_cmp l.parts)
