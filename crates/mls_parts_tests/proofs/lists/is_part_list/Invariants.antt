use Rattle.std.proofs.Common.{take}
use Rattle.std.specs.Ordering.{nat_cmp}
use Rattle.mls_parts.specs.PosedParts.{IsPartList}
use Rattle.mls_layout.specs.steps.Posable.{HasJust}
use Rattle.mls_parts_tests.proofs.lists.is_part_list.Given as goal

-- the nodes so far are such a list, and they are done
abbrev pub invariant-loop-node : goal.invariant-loop-node
invariant-loop-node l = record {
  list : IsPartList l.nodes (take l.node-index l.part);
  just : HasJust nat_cmp (take l.node-index l.part) l.done;
}
