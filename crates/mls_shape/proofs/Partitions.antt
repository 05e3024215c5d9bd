-- A partition is split by lists of nodes.
--     partition_opened, partition_sent    it stays one
--     part_there, part_opened             a block has a part
--     parts_stay, parts_send              one node goes to the part of its block
--     nodes_none, nodes_more, nodes_all   one node after another
--     parts_keep                          related nodes stay together where the list has both or none
use Rattle.std.proofs.Common.{◌≡◌, ◌⊎◌, inl, inr, ℕ, ◌+◌, ◌<◌, ◌≤◌, List, [], ◌∷◌, ◌++◌, refl, sym, ap, ◌∙◌, subst, arith, length, take, get_or, suc, zero, Contains}
use Rattle.std.specs.Prelude.{Result, Ok, Err, OnOk}
use Rattle.std.proofs.lemmas.Bool.{cases_eq}
use Rattle.std.proofs.lemmas.List.{get_or_append_left, length-append, take_all, get_or-set_same, get_or-set_other, length-set}
use Rattle.std.proofs.lemmas.List.Elements.{Contains-append_left, Contains-append_right}
use Rattle.std.proofs.Math.Nat.{eq-or-lt_of_le}
use Rattle.std.proofs.Math.ListN.{get_or-eq_default}
use Rattle.mls_automaton.proofs.Lists.{Contains-here}
use Rattle.mls_shape.specs.declared.partition.Partition.{Partition}
use Rattle.mls_shape.specs.steps.Classes.{class_in}
use Rattle.mls_shape.specs.steps.Partitions.{listed, IsPartition, KeepsTogether, OpensPart, HasPart, PartsNode, PartsNodes, SendsNode, StaysOrGoes}
use Rattle.mls_shape.proofs.Holders.{taken-before, taken-last, taken-cases}

pub on_ok_any : {T E P : Type 0} (r : Result T E) → P → OnOk r P
on_ok_any (Ok x) it = it
on_ok_any (Err e) it = tt

pub no_member : (v : ℕ) → Contains {X = ℕ} [] v → ⊥
no_member v there = let low : there.0 < 0 = there.1 in omega arith

padded : (xs : List ℕ) (k : ℕ) → class_in (xs ++ 0 ∷ []) k ≡ class_in xs k
padded [] zero = refl
padded [] (suc k) = refl
padded (x ∷ xs) zero = refl
padded (x ∷ xs) (suc k) = padded xs k

pub le_or_lt : (a b : ℕ) → (a ≤ b) ⊎ (b < a)
le_or_lt zero b = inl (omega arith)
le_or_lt (suc a) zero = inr (omega arith)
le_or_lt (suc a) (suc b) = elim (le_or_lt a b) [ inl it ↦ inl (omega arith) | inr it ↦ inr (omega arith) ]

module _ (n : ℕ) (old new : Partition) (is : IsPartition n old) where
  -- one more block
  module _ (block : ℕ) (low : block < length old.members.items) (opens : OpensPart block old new) where
    count : length new.members.items ≡ length old.members.items + 1
    count = ap length opens.members ∙ length-append old.members.items ([] ∷ [])

    part_count : length new.parts.items ≡ length old.parts.items + 1
    part_count = ap length opens.parts ∙ (length-set (old.parts.items ++ 0 ∷ []) block (length old.members.items) ∙ length-append old.parts.items (0 ∷ []))

    inside : block < length (old.parts.items ++ 0 ∷ [])
    inside =
        let sizes = is.parts in
        let more = length-append old.parts.items (0 ∷ []) in
        omega arith

    pub new_part : class_in new.parts.items block ≡ length old.members.items
    new_part = ap (λ xs. class_in xs block) opens.parts ∙ get_or-set_same (old.parts.items ++ 0 ∷ []) block (length old.members.items) 0 inside

    pub old_part : (k : ℕ) → (k ≡ block → ⊥) → class_in new.parts.items k ≡ class_in old.parts.items k
    old_part k other =
        ap (λ xs. class_in xs k) opens.parts
        ∙ (get_or-set_other (old.parts.items ++ 0 ∷ []) block k (length old.members.items) 0 other ∙ padded old.parts.items k)

    part_below : (k : ℕ) → k < length new.members.items → class_in new.parts.items k < length new.members.items
    part_below k inside_k =
        let more = count in
        elim (cases_eq k block) [
          | inl same ↦ let at : class_in new.parts.items k ≡ length old.members.items = ap (class_in new.parts.items) same ∙ new_part in omega arith
          | inr other ↦
              let at = old_part k other in
              elim (eq-or-lt_of_le {n = k} {m = length old.members.items} (omega arith)) [
                | inl last ↦
                    let sizes = is.parts in
                    let last : k ≡ length old.members.items = last in
                    let zero : class_in old.parts.items k ≡ 0 = get_or-eq_default old.parts.items 0 (omega arith) in
                    omega arith
                | inr less ↦ let below = is.part_low k less in omega arith
              ]
        ]

    block_same : (v : ℕ) → class_in new.blocks.items v ≡ class_in old.blocks.items v
    block_same v = ap (λ xs. class_in xs v) opens.blocks

    pub partition_opened : IsPartition n new
    partition_opened = record {
      size = ap length opens.blocks ∙ is.size;
      parts = let sizes = is.parts in let one = count in let two = part_count in omega arith;
      low = λ v inside_v. let below = is.low v inside_v in let same = block_same v in let more = count in omega arith;
      part_low = part_below;
      members = λ v inside_v.
          subst (λ k. Contains (listed new.members.items k) v) (sym (block_same v))
          (subst (λ (xs : List ℕ). Contains xs v)
          (sym (ap (λ lists. listed lists (class_in old.blocks.items v)) opens.members ∙ get_or_append_left old.members.items ([] ∷ []) [] (class_in old.blocks.items v) (is.low v inside_v)))
          (is.members v inside_v));
    }

  -- a node goes to a part
  module _ (node block : ℕ) (low : node < n) (inside : block < length old.members.items) (sends : SendsNode node block old new) where
    abbrev part : ℕ
    part = class_in old.parts.items block

    kept_count : length new.members.items ≡ length old.members.items
    kept_count = ap length sends.members ∙ length-set old.members.items part (listed old.members.items part ++ node ∷ [])

    part_same : (k : ℕ) → class_in new.parts.items k ≡ class_in old.parts.items k
    part_same k = ap (λ xs. class_in xs k) sends.parts

    part_inside : part < length old.members.items
    part_inside = is.part_low block inside

    pub here : class_in new.blocks.items node ≡ part
    here =
        let sizes = is.size in
        ap (λ xs. class_in xs node) sends.blocks ∙ get_or-set_same old.blocks.items node part 0 (omega arith)

    pub elsewhere : (v : ℕ) → (v ≡ node → ⊥) → class_in new.blocks.items v ≡ class_in old.blocks.items v
    elsewhere v other = ap (λ xs. class_in xs v) sends.blocks ∙ get_or-set_other old.blocks.items node v part 0 other

    more : (k v : ℕ) → Contains (listed old.members.items k) v → Contains (listed new.members.items k) v
    more k v there =
        elim (cases_eq k part) [
          | inl same ↦
              subst (λ j. Contains (listed new.members.items j) v) (sym same)
              (subst (λ (xs : List ℕ). Contains xs v) (sym at)
              (Contains-append_left (listed old.members.items part) (node ∷ []) v (subst (λ j. Contains (listed old.members.items j) v) same there)))
          | inr other ↦
              subst (λ (xs : List ℕ). Contains xs v)
              (sym (ap (λ lists. listed lists k) sends.members ∙ get_or-set_other old.members.items part k (listed old.members.items part ++ node ∷ []) [] other)) there
        ]
      where
        at : listed new.members.items part ≡ listed old.members.items part ++ node ∷ []
        at = ap (λ lists. listed lists part) sends.members ∙ get_or-set_same old.members.items part (listed old.members.items part ++ node ∷ []) [] part_inside

    last : Contains (listed new.members.items part) node
    last =
        subst (λ (xs : List ℕ). Contains xs node)
        (sym (ap (λ lists. listed lists part) sends.members ∙ get_or-set_same old.members.items part (listed old.members.items part ++ node ∷ []) [] part_inside))
        (Contains-append_right (listed old.members.items part) (node ∷ []) node (Contains-here node []))

    pub partition_sent : IsPartition n new
    partition_sent = record {
      size = ap length sends.blocks ∙ (length-set old.blocks.items node part ∙ is.size);
      parts = ap length sends.parts ∙ (is.parts ∙ sym kept_count);
      low = λ v inside_v.
          let sizes = kept_count in
          elim (cases_eq v node) [
            | inl same ↦ let at : class_in new.blocks.items v ≡ part = ap (class_in new.blocks.items) same ∙ here in let below = part_inside in omega arith
            | inr other ↦ let at = elsewhere v other in let below = is.low v inside_v in omega arith
          ];
      part_low = λ k inside_k.
          let sizes = kept_count in
          let at = part_same k in
          let below : class_in old.parts.items k < length old.members.items = is.part_low k (omega arith) in
          omega arith;
      members = λ v inside_v.
          elim (cases_eq v node) [
            | inl same ↦ subst (λ v. Contains (listed new.members.items (class_in new.blocks.items v)) v) (sym same) (subst (λ k. Contains (listed new.members.items k) node) (sym here) last)
            | inr other ↦ subst (λ k. Contains (listed new.members.items k) v) (sym (elsewhere v other)) (more (class_in old.blocks.items v) v (is.members v inside_v))
          ];
    }

-- one node
pub parts_stay : (first node : ℕ) (p : Partition) → first ≤ class_in p.blocks.items node → PartsNode first node p p
parts_stay first node p part = record {
  others = λ v other. refl;
  stays = λ it. refl;
  leaves = λ less. absurd (omega arith);
  parts = λ k it. refl;
}

-- a part for it
pub part_there : (first block n : ℕ) (p : Partition) → IsPartition n p → first ≤ class_in p.parts.items block → HasPart first block n p p
part_there first block n p is part = record { is = is; blocks = refl; grows = omega arith; part = part; others = λ k it. refl }

pub part_opened : (first block n : ℕ) (old new : Partition) → IsPartition n old → block < length old.members.items → first ≤ length old.members.items → class_in old.parts.items block < first → OpensPart block old new → HasPart first block n old new
part_opened first block n old new is low bound none opens = record {
  is = partition_opened n old new is block low opens;
  blocks = opens.blocks;
  grows = let more = count n old new is block low opens in omega arith;
  part = let at = new_part n old new is block low opens in omega arith;
  others = λ k it.
      elim (cases_eq k block) [
        | inl same ↦ let at : class_in old.parts.items k ≡ class_in old.parts.items block = ap (class_in old.parts.items) same in absurd (omega arith)
        | inr other ↦ old_part n old new is block low opens k other
      ];
}

-- it goes there
module _ (first node n : ℕ) (old mid new : Partition) (is : IsPartition n old) (low : node < n) (less : class_in old.blocks.items node < first)
    (has : HasPart first (class_in old.blocks.items node) n old mid) (sends : SendsNode node (class_in old.blocks.items node) mid new) where
  in_mid : class_in old.blocks.items node < length mid.members.items
  in_mid = let below = is.low node low in let more = has.grows in omega arith

  pub part_partition : IsPartition n new
  part_partition = partition_sent n mid new has.is node (class_in old.blocks.items node) low in_mid sends

  pub part_grows : length old.members.items ≤ length new.members.items
  part_grows = let same = kept_count n mid new has.is node (class_in old.blocks.items node) low in_mid sends in let more = has.grows in omega arith

  pub parts_send : PartsNode first node old new
  parts_send = record {
    others = λ v other. elsewhere n mid new has.is node (class_in old.blocks.items node) low in_mid sends v other ∙ ap (λ xs. class_in xs v) has.blocks;
    stays = λ it. absurd (omega arith);
    leaves = λ it.
        let at = here n mid new has.is node (class_in old.blocks.items node) low in_mid sends in
        let above = has.part in
        (omega arith, at ∙ sym (ap (λ xs. class_in xs (class_in old.blocks.items node)) sends.parts));
    parts = λ k it. ap (λ xs. class_in xs k) sends.parts ∙ has.others k it;
  }

-- one node after another
pub nodes_none : (first : ℕ) (nodes : List ℕ) (p : Partition) → PartsNodes first (take 0 nodes) p p
nodes_none first nodes p = record {
  moved = λ v there. absurd (no_member v there);
  how = λ v. inl refl;
}

module _ (first : ℕ) (nodes : List ℕ) (k : ℕ) (low : k < length nodes) (start old new : Partition) (parted : PartsNodes first (take k nodes) start old)
    (part : PartsNode first (get_or nodes k 0) old new) where
  abbrev node : ℕ
  node = get_or nodes k 0

  moved_node : (first ≤ class_in old.blocks.items node) ⊎ (class_in old.blocks.items node < first) → first ≤ class_in new.blocks.items node
  moved_node (inl moved) = let same = part.stays moved in omega arith
  moved_node (inr less) = (part.leaves less).0

  moved_more : (v : ℕ) → Contains (take (k + 1) nodes) v → first ≤ class_in new.blocks.items v
  moved_more v there =
      elim (cases_eq v node) [
        | inl same ↦ subst (λ v. first ≤ class_in new.blocks.items v) (sym same) (moved_node (le_or_lt first (class_in old.blocks.items node)))
        | inr other ↦
            elim (taken-cases nodes k 0 low v there) [
              | inl before ↦ let moved = parted.moved v before in let same = part.others v other in omega arith
              | inr last ↦ absurd (other last)
            ]
      ]

  stayed : (v : ℕ) → class_in new.blocks.items v ≡ class_in old.blocks.items v → StaysOrGoes first (take (k + 1) nodes) start new v
  stayed v same =
      elim (parted.how v) [
        | inl first ↦ inl (same ∙ first)
        | inr moved ↦
            let at : class_in old.blocks.items v ≡ class_in old.parts.items (class_in start.blocks.items v) = moved.2 in
            let above = moved.1 in
            inr (taken-before nodes k 0 low v moved.0, omega arith, same ∙ (at ∙ sym (part.parts (class_in start.blocks.items v) (omega arith))))
      ]

  left : class_in old.blocks.items node < first → StaysOrGoes first (take (k + 1) nodes) start new node
  left less =
      let it = part.leaves less in
      elim (parted.how node) [
        | inl same ↦ inr (taken-last nodes k 0 low, it.0, it.1 ∙ ap (class_in new.parts.items) same)
        | inr moved ↦ let above = moved.1 in absurd (omega arith)
      ]

  pub nodes_more : PartsNodes first (take (k + 1) nodes) start new
  nodes_more = record {
    moved = moved_more;
    how = λ v.
        elim (cases_eq v node) [
          | inl same ↦
              subst (StaysOrGoes first (take (k + 1) nodes) start new) (sym same)
              (elim (le_or_lt first (class_in old.blocks.items node)) [
                | inl moved ↦ stayed node (part.stays moved)
                | inr less ↦ left less
              ])
          | inr other ↦ stayed v (part.others v other)
        ];
  }

pub nodes_all : (first : ℕ) (nodes : List ℕ) (k : ℕ) (start new : Partition) → length nodes ≤ k → PartsNodes first (take k nodes) start new → PartsNodes first nodes start new
nodes_all first nodes k start new all it = let P : List ℕ → Type 0 = λ xs. PartsNodes first xs start new in subst P (take_all k nodes all) it

-- related nodes
module _ (first n : ℕ) (nodes : List ℕ) (old new : Partition) (below : (v : ℕ) → v < n → class_in old.blocks.items v < first) (parts : PartsNodes first nodes old new)
    (R : ℕ → ℕ → Type 0) (low : (x y : ℕ) → R x y → (x < n) × (y < n)) (keeps : KeepsTogether R old.blocks.items)
    (there : (x y : ℕ) → R x y → Contains nodes x → Contains nodes y) (back : (x y : ℕ) → R x y → Contains nodes y → Contains nodes x) where
  pub parts_keep : KeepsTogether R new.blocks.items
  parts_keep x y it = go (parts.how x) (parts.how y)
    where
      go : StaysOrGoes first nodes old new x → StaysOrGoes first nodes old new y → class_in new.blocks.items x ≡ class_in new.blocks.items y
      go (inl same) (inl same') = same ∙ (keeps x y it ∙ sym same')
      go (inl same) (inr moved) =
          let above : first ≤ class_in new.blocks.items x = parts.moved x (back x y it moved.0) in
          let under = below x (low x y it).0 in
          absurd (omega arith)
      go (inr moved) (inl same) =
          let above : first ≤ class_in new.blocks.items y = parts.moved y (there x y it moved.0) in
          let under = below y (low x y it).1 in
          absurd (omega arith)
      go (inr moved) (inr moved') = moved.2 ∙ (ap (class_in new.parts.items) (keeps x y it) ∙ sym moved'.2)
