use Rattle.std.proofs.Common.{List, ℕ, length, subst}
use Rattle.std.specs.BTreeMap.{get}
use Rattle.std.specs.Ordering.{nat_cmp}
use Rattle.mls_parts.specs.steps.Owners.{IsSplit}
use Rattle.mls_parts.proofs.Owners.{term_parts}
use Rattle.mls_parts.proofs.split.parts_of.Goals as goal

pub returns : goal.returns
returns c =
    term_parts c.args.nodes.now c.requires c.in_ok-owners.owners.items c.in_ok-parts.parts c.name_parts.new.parts c.in_ok-owners.ensures
    (subst (λ (owners : List ℕ). IsSplit owners (length owners) (get nat_cmp c.in_ok-parts.parts)) c.as_slice.ensures.value c.in_ok-parts.ensures) c.name_parts.ensures
