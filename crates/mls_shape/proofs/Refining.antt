-- A refinement by lists of nodes with a child in a block.
--     members_none, members_more    the nodes of each block
--     partition_begun               the first partition
--     kept_none, kept_more, kept_all    the nodes of one block
--     partition_kept                a block is listed with these
--     nodes_below                   the parents are nodes
--     split_refines                 related nodes stay together
--     refines-self, refines-both    one split after another
--     bound_more, bound_all         a number above all blocks
use Rattle.std.proofs.Common.{◌≡◌, inl, inr, ℕ, ◌+◌, ◌<◌, ◌≤◌, List, [], ◌∷◌, ◌++◌, refl, sym, ap, ◌∙◌, subst, arith, length, take, get_or, set, All, Contains}
use Rattle.std.specs.Prelude.{replicate}
use Rattle.std.specs.List.{flat_map}
use Rattle.std.proofs.lemmas.Bool.{cases_eq}
use Rattle.std.proofs.lemmas.List.{take_all, get_or-replicate, get_or-set_same, get_or-set_other, length-replicate, length-set}
use Rattle.std.proofs.lemmas.List.Elements.{All-contains, Contains-append_left, Contains-append_right, Contains-append_cases}
use Rattle.std.proofs.Math.ListN.{get_or-eq_default}
use Rattle.mls_automaton.proofs.Lists.{All-contained, Contains-here, Contains-cases, Contains-flat_map, Contains-flat_map_back}
use Rattle.mls_flow.specs.Admissible.{Holds}
use Rattle.mls_shape.specs.declared.partition.Partition.{Partition}
use Rattle.mls_shape.specs.steps.Classes.{class_in}
use Rattle.mls_shape.specs.steps.Edges.{AddsHolders}
use Rattle.mls_shape.specs.steps.Partitions.{listed, AddsIfInBlock, AreMembers, AreNodes, HoldsInBlock, IsInBlock, IsBisimulation, IsPartition, IsRefinement, KeepsTogether, PartsNodes}
use Rattle.mls_shape.proofs.Holders.{taken-before, taken-last, taken-cases}
use Rattle.mls_shape.proofs.Partitions.{le_or_lt, no_member, parts_keep}

pub only : (x y : ℕ) → Contains (x ∷ []) y → x ≡ y
only x y there =
    elim (Contains-cases x [] y there) [
      | inl same ↦ same
      | inr none ↦ absurd (no_member y none)
    ]

-- what is listed at a number
pub listed_low : (lists : List (List ℕ)) (k v : ℕ) → Contains (listed lists k) v → k < length lists
listed_low lists k v there =
    elim (le_or_lt (length lists) k) [
      | inl past ↦ absurd (no_member v (subst (λ (xs : List ℕ). Contains xs v) (get_or-eq_default lists [] past) there))
      | inr low ↦ low
    ]

-- the nodes of each block
pub members_none : (blocks : List ℕ) (count : ℕ) (members : List (List ℕ)) → length members ≡ count → AreMembers blocks count 0 members
members_none blocks count members size = record { size = size; listed = λ v none. absurd (omega arith) }

pub members_more : (blocks : List ℕ) (count v : ℕ) (old new : List (List ℕ)) (one : List ℕ) → AreMembers blocks count v old → class_in blocks v < count → one ≡ class_in blocks v ∷ []
    → AddsHolders old new (λ u j. (u ≡ v) × Contains one j) → AreMembers blocks count (v + 1) new
members_more blocks count v old new one are low is adds = record {
  size = adds.same_length ∙ are.size;
  listed = λ u below.
      let size = are.size in
      elim (cases_eq u v) [
        | inl same ↦
            subst (λ u. Contains (get_or new (class_in blocks u) []) u) (sym same)
            ((adds.just v (class_in blocks v) (omega arith)).1
            (inr (refl, subst (λ (xs : List ℕ). Contains xs (class_in blocks v)) (sym is) (Contains-here (class_in blocks v) []))))
        | inr other ↦
            let there : Contains (get_or old (class_in blocks u) []) u = are.listed u (omega arith) in
            (adds.just u (class_in blocks u) (listed_low old (class_in blocks u) u there)).1 (inl there)
      ];
}

pub partition_begun : (p : Partition) (count : ℕ) → All (λ b. b < count) p.blocks.items → AreMembers p.blocks.items count (length p.blocks.items) p.members.items → p.parts.items ≡ replicate count 0 → IsPartition (length p.blocks.items) p
partition_begun p count low are parts = record {
  size = refl;
  parts = ap length parts ∙ (length-replicate count 0 ∙ sym are.size);
  low = λ v inside. let size = are.size in let below : class_in p.blocks.items v < count = low v 0 inside in omega arith;
  part_low = λ k inside.
      let size = are.size in
      let zero : class_in p.parts.items k ≡ 0 = ap (λ xs. class_in xs k) parts ∙ get_or-replicate count k 0 0 (omega arith) in
      omega arith;
  members = are.listed;
}

-- the nodes of one block
pub kept_none : (blocks : List ℕ) (block : ℕ) (nodes : List ℕ) → HoldsInBlock blocks block (take 0 nodes) []
kept_none blocks block nodes v = (λ there. absurd (no_member v there), λ it. absurd (no_member v it.0))

pub keeps_out : (blocks : List ℕ) (block v : ℕ) (kept : List ℕ) → (IsInBlock blocks block v → ⊥) → AddsIfInBlock blocks block v kept kept
keeps_out blocks block v kept is_out u = (
  (λ there. inl there),
  (λ it. elim it [
    | inl there ↦ there
    | inr added ↦ absurd (is_out (subst (IsInBlock blocks block) added.0 added.1))
  ]),
)

pub keeps_in : (blocks : List ℕ) (block v : ℕ) (kept : List ℕ) → IsInBlock blocks block v → AddsIfInBlock blocks block v kept (kept ++ v ∷ [])
keeps_in blocks block v kept is_in u = (
  (λ there. elim (Contains-append_cases kept (v ∷ []) u there) [
    | inl before ↦ inl before
    | inr last ↦ let same : v ≡ u = only v u last in inr (sym same, subst (IsInBlock blocks block) same is_in)
  ]),
  (λ it. elim it [
    | inl before ↦ Contains-append_left kept (v ∷ []) u before
    | inr added ↦ Contains-append_right kept (v ∷ []) u (subst (Contains (v ∷ [])) (sym added.0) (Contains-here v []))
  ]),
)

pub kept_more : (blocks : List ℕ) (block : ℕ) (nodes : List ℕ) (k : ℕ) → k < length nodes → (old new : List ℕ) → HoldsInBlock blocks block (take k nodes) old → AddsIfInBlock blocks block (get_or nodes k 0) old new
    → HoldsInBlock blocks block (take (k + 1) nodes) new
kept_more blocks block nodes k low old new holds adds v = (
  (λ there. elim ((adds v).0 there) [
    | inl before ↦ let it = (holds v).0 before in (taken-before nodes k 0 low v it.0, it.1)
    | inr added ↦ (subst (Contains (take (k + 1) nodes)) (sym added.0) (taken-last nodes k 0 low), added.1)
  ]),
  (λ it. elim (taken-cases nodes k 0 low v it.0) [
    | inl before ↦ (adds v).1 (inl ((holds v).1 (before, it.1)))
    | inr same ↦ (adds v).1 (inr (same, it.1))
  ]),
)

pub kept_all : (blocks : List ℕ) (block : ℕ) (nodes : List ℕ) (k : ℕ) (kept : List ℕ) → length nodes ≤ k → HoldsInBlock blocks block (take k nodes) kept → HoldsInBlock blocks block nodes kept
kept_all blocks block nodes k kept all it = let P : List ℕ → Type 0 = λ xs. HoldsInBlock blocks block xs kept in subst P (take_all k nodes all) it

-- a split by a block
module _ (parents : List (List ℕ)) (old mid : Partition) (is : IsPartition (length parents) old) (block : ℕ) (low : block < length old.members.items) (kept : List ℕ)
    (holds : HoldsInBlock old.blocks.items block (listed old.members.items block) kept) where
  pub partition_kept : mid.blocks.items ≡ old.blocks.items → mid.parts.items ≡ old.parts.items → mid.members.items ≡ set old.members.items block kept → IsPartition (length parents) mid
  partition_kept blocks parts members = record {
    size = ap length blocks ∙ is.size;
    parts = ap length parts ∙ (is.parts ∙ sym count);
    low = λ v low_v. let same = block_same v in let sizes = count in let below = is.low v low_v in omega arith;
    part_low = λ k low_k.
        let sizes = count in
        let same : class_in mid.parts.items k ≡ class_in old.parts.items k = ap (λ xs. class_in xs k) parts in
        let below : class_in old.parts.items k < length old.members.items = is.part_low k (omega arith) in
        omega arith;
    members = λ v low_v.
        subst (λ k. Contains (listed mid.members.items k) v) (sym (block_same v))
        (elim (cases_eq (class_in old.blocks.items v) block) [
          | inl same ↦
              subst (λ k. Contains (listed mid.members.items k) v) (sym same)
              (subst (λ (xs : List ℕ). Contains xs v) (sym (ap (λ lists. listed lists block) members ∙ get_or-set_same old.members.items block kept [] low))
              ((holds v).1 (subst (λ k. Contains (listed old.members.items k) v) same (is.members v low_v), (let size = is.size in omega arith, same))))
          | inr other ↦
              subst (λ (xs : List ℕ). Contains xs v)
              (sym (ap (λ lists. listed lists (class_in old.blocks.items v)) members ∙ get_or-set_other old.members.items block (class_in old.blocks.items v) kept [] other))
              (is.members v low_v)
        ]);
  }
    where
      count : length mid.members.items ≡ length old.members.items
      count = ap length members ∙ length-set old.members.items block kept

      block_same : (v : ℕ) → class_in mid.blocks.items v ≡ class_in old.blocks.items v
      block_same v = ap (λ xs. class_in xs v) blocks

  pub kept_below : All (λ q. q < length parents) kept
  kept_below = All-contained (λ q. q < length parents) kept (λ q there. let it = (holds q).0 there in let low_q : q < length old.blocks.items = it.1.0 in let size = is.size in omega arith)

  abbrev pub nodes : List ℕ
  nodes = flat_map (λ q. get_or parents q []) kept

  pub nodes_below : AreNodes parents → All (λ v. v < length parents) nodes
  nodes_below are = All-contained (λ v. v < length parents) nodes (λ v there. let it = Contains-flat_map_back (λ q. get_or parents q []) kept v there in are it.0 v it.2)

  found : (r v : ℕ) → class_in old.blocks.items r ≡ block → r < length parents → Contains (listed parents r) v → Contains nodes v
  found r v same low_r there =
      let size = is.size in
      Contains-flat_map (λ q. get_or parents q []) kept r v
      ((holds r).1 (subst (λ k. Contains (listed old.members.items k) r) same (is.members r low_r), (omega arith, same))) there

  module _ (R : ℕ → ℕ → Type 0) (bisimulation : IsBisimulation parents R) (keeps : KeepsTogether R old.blocks.items) where
    nodes_there : (x y : ℕ) → R x y → Contains nodes x → Contains nodes y
    nodes_there x y it there =
        let from = Contains-flat_map_back (λ q. get_or parents q []) kept x there in
        let to = bisimulation.there x y from.0 it from.2 in
        let in_block : class_in old.blocks.items from.0 ≡ block = ((holds from.0).0 from.1).1.1 in
        found to.0 y (sym (keeps from.0 to.0 to.1) ∙ in_block) (bisimulation.low from.0 to.0 to.1).1 to.2

    nodes_back : (x y : ℕ) → R x y → Contains nodes y → Contains nodes x
    nodes_back x y it there =
        let from = Contains-flat_map_back (λ q. get_or parents q []) kept y there in
        let to = bisimulation.back x y from.0 it from.2 in
        let in_block : class_in old.blocks.items from.0 ≡ block = ((holds from.0).0 from.1).1.1 in
        found to.0 x (keeps to.0 from.0 to.1 ∙ in_block) (bisimulation.low to.0 from.0 to.1).0 to.2

  pub split_refines : (new : Partition) (first : ℕ) → first ≡ length old.members.items → mid.blocks.items ≡ old.blocks.items → PartsNodes first nodes mid new → IsRefinement parents old.blocks.items new.blocks.items
  split_refines new first count blocks parts table bisimulation keeps =
      parts_keep first (length parents) nodes mid new
      (λ v low_v. let same : class_in mid.blocks.items v ≡ class_in old.blocks.items v = ap (λ xs. class_in xs v) blocks in let below = is.low v low_v in omega arith)
      parts (Holds table) bisimulation.low (subst (KeepsTogether (Holds table)) (sym blocks) keeps)
      (nodes_there (Holds table) bisimulation keeps) (nodes_back (Holds table) bisimulation keeps)

-- one split after another
pub refines-self : (parents : List (List ℕ)) (blocks : List ℕ) → IsRefinement parents blocks blocks
refines-self parents blocks table bisimulation keeps = keeps

pub refines-both : (parents : List (List ℕ)) (first second third : List ℕ) → IsRefinement parents first second → IsRefinement parents second third → IsRefinement parents first third
refines-both parents first second third one two table bisimulation keeps = two table bisimulation (one table bisimulation keeps)

-- a number above all blocks
pub bound_more : (blocks : List ℕ) (k count bound : ℕ) → k < length blocks → All (λ b. b < count) (take k blocks) → count ≤ bound → get_or blocks k 0 < bound → All (λ b. b < bound) (take (k + 1) blocks)
bound_more blocks k count bound low all more last = All-contained (λ b. b < bound) (take (k + 1) blocks) (λ b there.
    elim (taken-cases blocks k 0 low b there) [
      | inl before ↦ let less : b < count = All-contains (λ b. b < count) (take k blocks) b all before in omega arith
      | inr same ↦ omega arith
    ])

pub bound_all : (blocks : List ℕ) (k count : ℕ) → length blocks ≤ k → All (λ b. b < count) (take k blocks) → All (λ b. b < count) blocks
bound_all blocks k count all it = let P : List ℕ → Type 0 = λ xs. All (λ b. b < count) xs in subst P (take_all k blocks all) it
