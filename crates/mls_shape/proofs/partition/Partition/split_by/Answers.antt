use Rattle.std.proofs.Common.{◌≡◌, ◌∙◌, ◌<◌, ◌++◌, [], ℕ, List, All, refl, sym, arith, length, subst, get_or}
use Rattle.std.specs.List.{flat_map}
use Rattle.std.specs.Vec.{with_item}
use Rattle.std.proofs.lemmas.List.{get_or_default, length-set}
use Rattle.std.proofs.lemmas.Result.{on_ok_weaker}
use Rattle.mls_shape.specs.declared.partition.Partition.{Partition}
use Rattle.mls_shape.specs.steps.Partitions.{listed, HoldsInBlock, IsPartition, PartsNodes}
use Rattle.mls_shape.proofs.Refining.{kept_below, partition_kept, nodes_below, split_refines}
use Rattle.mls_shape.proofs.partition.Partition.split_by.Goals as goal

holds_of : (old : Partition) (block : ℕ) (blocks at nodes kept : List ℕ) → block < length old.members.items → blocks ≡ old.blocks.items → nodes ≡ at → at ≡ get_or old.members.items block at
    → HoldsInBlock blocks block nodes kept → HoldsInBlock old.blocks.items block (listed old.members.items block) kept
holds_of old block blocks at nodes kept low same is-at is-member it =
    subst (λ (xs : List ℕ). HoldsInBlock xs block (listed old.members.items block) kept) same
    (subst (λ (xs : List ℕ). HoldsInBlock blocks block xs kept) (is-at ∙ (is-member ∙ get_or_default old.members.items block at [] low)) it)

pub add_holders-requires : goal.add_holders-requires
add_holders-requires c =
    let low : c.args.block < length c.args.self.now.members.items = omega (arith, c.if-block-len.false, c.len.ensures) in
    let holds : HoldsInBlock c.args.self.now.blocks.items c.args.block (listed c.args.self.now.members.items c.args.block) c.in_ok-kept.kept =
    holds_of c.args.self.now c.args.block c.as_slice.result.now c.index.result.now c.as_slice-2.result.now c.in_ok-kept.kept low c.as_slice.ensures.value c.as_slice-2.ensures c.index.ensures c.in_ok-kept.ensures in
    subst (λ (xs : List ℕ). All (λ q. q < length c.args.parents.now) xs) (sym c.as_slice-3.ensures)
    (kept_below c.args.parents.now c.args.self.now c.args.self.now c.requires.partition c.args.block low c.in_ok-kept.kept holds)

pub split-requires-clause-partition : goal.split-requires-clause-partition
split-requires-clause-partition c =
    let low : c.args.block < length c.args.self.now.members.items = omega (arith, c.if-block-len.false, c.len.ensures) in
    let holds : HoldsInBlock c.args.self.now.blocks.items c.args.block (listed c.args.self.now.members.items c.args.block) c.in_ok-kept.kept =
    holds_of c.args.self.now c.args.block c.as_slice.result.now c.index.result.now c.as_slice-2.result.now c.in_ok-kept.kept low c.as_slice.ensures.value c.as_slice-2.ensures c.index.ensures c.in_ok-kept.ensures in
    let mid : Partition = record {
      blocks = c.args.self.now.blocks;
      members = with_item c.args.self.now.members c.args.block c.in_ok-kept.kept;
      parts = c.args.self.now.parts;
      agenda = c.args.self.now.agenda;
    } in
    subst (λ n. IsPartition n mid) (sym c.requires.partition.size)
    (partition_kept c.args.parents.now c.args.self.now mid c.requires.partition c.args.block low c.in_ok-kept.kept holds refl refl refl)

pub split-requires-clause-nodes : goal.split-requires-clause-nodes
split-requires-clause-nodes c =
    let low : c.args.block < length c.args.self.now.members.items = omega (arith, c.if-block-len.false, c.len.ensures) in
    let holds : HoldsInBlock c.args.self.now.blocks.items c.args.block (listed c.args.self.now.members.items c.args.block) c.in_ok-kept.kept =
    holds_of c.args.self.now c.args.block c.as_slice.result.now c.index.result.now c.as_slice-2.result.now c.in_ok-kept.kept low c.as_slice.ensures.value c.as_slice-2.ensures c.index.ensures c.in_ok-kept.ensures in
    let found : c.as_slice-4.result.now ≡ flat_map (λ q. get_or c.args.parents.now q []) c.in_ok-kept.kept =
    c.as_slice-4.ensures.value ∙ (c.in_ok-add_holders.ensures ∙ (λ i. c.new-nodes.ensures.items i ++ flat_map (λ q. get_or c.args.parents.now q []) (c.as_slice-3.ensures i))) in
    subst (λ n. All (λ v. v < n) c.as_slice-4.result.now) (sym c.requires.partition.size)
    (subst (λ (xs : List ℕ). All (λ v. v < length c.args.parents.now) xs) (sym found)
    (nodes_below c.args.parents.now c.args.self.now c.args.self.now c.requires.partition c.args.block low c.in_ok-kept.kept holds c.requires.nodes))

pub returns-clause-refinement : goal.returns-clause-refinement
returns-clause-refinement c =
    let low : c.args.block < length c.args.self.now.members.items = omega (arith, c.if-block-len.false, c.len.ensures) in
    let holds : HoldsInBlock c.args.self.now.blocks.items c.args.block (listed c.args.self.now.members.items c.args.block) c.in_ok-kept.kept =
    holds_of c.args.self.now c.args.block c.as_slice.result.now c.index.result.now c.as_slice-2.result.now c.in_ok-kept.kept low c.as_slice.ensures.value c.as_slice-2.ensures c.index.ensures c.in_ok-kept.ensures in
    let mid : Partition = record {
      blocks = c.args.self.now.blocks;
      members = with_item c.args.self.now.members c.args.block c.in_ok-kept.kept;
      parts = c.args.self.now.parts;
      agenda = c.args.self.now.agenda;
    } in
    let found : c.as_slice-4.result.now ≡ flat_map (λ q. get_or c.args.parents.now q []) c.in_ok-kept.kept =
    c.as_slice-4.ensures.value ∙ (c.in_ok-add_holders.ensures ∙ (λ i. c.new-nodes.ensures.items i ++ flat_map (λ q. get_or c.args.parents.now q []) (c.as_slice-3.ensures i))) in
    on_ok_weaker c.split.result
    (λ parts.
    split_refines c.args.parents.now c.args.self.now mid c.requires.partition c.args.block low c.in_ok-kept.kept holds c.split.new.self (length mid.members.items)
    (length-set c.args.self.now.members.items c.args.block c.in_ok-kept.kept) refl
    (subst (λ (xs : List ℕ). PartsNodes (length mid.members.items) xs mid c.split.new.self) found parts))
    c.split.ensures.parts
