-- The tops of a read type that show its variables, one after another.
--     atom_shown, atoms_next      the variables of atoms
--     top_shown, other_shown      the variables of a top
--     tops_first, tops_more, tops_all     of all tops
use Rattle.std.proofs.Common.{◌≡◌, ◌↔◌, ◌⊎◌, inl, inr, ℕ, ◌+◌, ◌<◌, Bool, true, false, List, [], ◌∷◌, ◌++◌, take, refl, sym, ap, ◌∙◌, subst, arith, length, get_or, Contains, Option, Some, None}
use Rattle.std.proofs.lemmas.List.{get_or_default, get_or_past}
use Rattle.std.proofs.lemmas.List.Elements.{Contains-append_left, Contains-push, Contains-push_cases}
use Rattle.std.specs.BTreeMap.{BTreeMap, IsEmpty, get, is_at}
use Rattle.std.specs.Map.{lookup}
use Rattle.std.specs.Option.{unwrap_or}
use Rattle.std.specs.Ordering.{nat_cmp, is_eq}
use Rattle.mls_book.specs.declared.book.Node.{Node}
use Rattle.mls_book.specs.declared.book.Node.TheVariants as node
use Rattle.mls_book.specs.Books.{node_at}
use Rattle.mls_book.proofs.LongerBooks.{below_or_more}
use Rattle.mls_automaton.specs.declared.automaton.Polarity.{Polarity}
use Rattle.mls_automaton.specs.declared.automaton.Polarity.TheVariants.{Negative}
use Rattle.mls_automaton.proofs.Searches.{next-cases, next-last, next-more}
use Rattle.mls_scheme.specs.ReadAutomata.{HasVariable}
use Rattle.mls_scheme.specs.steps.Layers.{AreAtoms}
use Rattle.mls_scheme.specs.steps.Signs.{sign_at, AreSigned}
use Rattle.mls_scheme.specs.steps.Uses.{IsAmong}
use Rattle.mls_layout.proofs.KeySets.{number_same, number_self}
use Rattle.mls_lines.specs.Showing.{AddsShown, ShowTops, ShowTopsTo, shown_by, with_state}

-- the variable of one atom
pub atom_shown : (y : Node) (v state : ℕ) (old new : BTreeMap ℕ (List ℕ)) → y ≡ node.Var v → ((x : ℕ) → get nat_cmp new x ≡ with_state (is_eq (nat_cmp v x)) state (get nat_cmp old x))
    → AddsShown (λ x. y ≡ node.Var x) state old new
atom_shown y v state old new is now = record { members = λ x k. go x k (is_eq (nat_cmp v x)) refl }
  where
    at : (x : ℕ) (t : Bool) → is_eq (nat_cmp v x) ≡ t → shown_by new x ≡ unwrap_or (with_state t state (get nat_cmp old x)) []
    at x t e = ap (λ (o : Option (List ℕ)). unwrap_or o []) (now x ∙ ap (λ b. with_state b state (get nat_cmp old x)) e)

    go : (x k : ℕ) (t : Bool) → is_eq (nat_cmp v x) ≡ t → Contains (shown_by new x) k ↔ Contains (shown_by old x) k ⊎ ((y ≡ node.Var x) × (k ≡ state))
    go x k true e = (
      λ it. elim (Contains-push_cases (shown_by old x) state k (subst (λ (s : List ℕ). Contains s k) (at x true e) it)) [
        | inl there ↦ inl there
        | inr last ↦ inr (is ∙ ap node.Var (number_same v x e), sym last)
      ],
      λ it. subst (λ (s : List ℕ). Contains s k) (sym (at x true e)) (elim it [
        | inl there ↦ Contains-append_left (shown_by old x) (state ∷ []) k there
        | inr last ↦ subst (Contains (shown_by old x ++ state ∷ [])) (sym last.1) (Contains-push (shown_by old x) state)
      ]),
    )
    go x k false e = (
      λ it. inl (subst (λ (s : List ℕ). Contains s k) (at x false e) it),
      λ it. elim it [
        | inl there ↦ subst (λ (s : List ℕ). Contains s k) (sym (at x false e)) there
        | inr last ↦
            let two : node.Var v ≡ node.Var x = sym is ∙ last.0 in
            let same : v ≡ x = cc in
            absurd (let wrong : is_eq (nat_cmp v x) ≡ true = subst (λ z. is_eq (nat_cmp v z) ≡ true) same (number_self v) in cc)
      ],
    )

-- the next atom
pub atoms_next : (nodes : List Node) (list : List ℕ) (n d state : ℕ) (first old new : BTreeMap ℕ (List ℕ)) (y : Node) → n < length list
    → AddsShown (IsAmong nodes (take n list)) state first old → y ≡ node_at nodes (get_or list n d) → AddsShown (λ x. y ≡ node.Var x) state old new
    → AddsShown (IsAmong nodes (take (n + 1) list)) state first new
atoms_next nodes list n d state first old new y low before is adds = record {
  members = λ x k. (
    λ it. elim ((adds.members x k).0 it) [
      | inl was ↦ elim ((before.members x k).0 was) [
        | inl there ↦ inl there
        | inr earlier ↦ inr ((earlier.0.0, next-more list n d low earlier.0.0 earlier.0.1, earlier.0.2), earlier.1)
      ]
      | inr one ↦ inr ((get_or list n d, next-last list n d low, sym is ∙ one.0), one.1)
    ],
    λ it. elim it [
      | inl there ↦ (adds.members x k).1 (inl ((before.members x k).1 (inl there)))
      | inr one ↦ elim (next-cases list n d low one.0.0 one.0.1) [
        | inl was ↦ (adds.members x k).1 (inl ((before.members x k).1 (inr ((one.0.0, was, one.0.2), one.1))))
        | inr last ↦ (adds.members x k).1 (inr (is ∙ (ap (node_at nodes) last ∙ one.0.2), one.1))
      ]
    ],
  );
}

-- all atoms of a top
pub top_shown : (P : Type 0) (nodes : List Node) (top : ℕ) (list : List ℕ) (old new : BTreeMap ℕ (List ℕ)) → P → AreAtoms nodes top list → AddsShown (IsAmong nodes list) top old new
    → AddsShown (λ x. P × HasVariable nodes top x) top old new
top_shown P nodes top list old new it are adds = record {
  members = λ x k. (
    λ there. elim ((adds.members x k).0 there) [
      | inl was ↦ inl was
      | inr one ↦ inr ((it, (one.0.0, are.same.0 one.0.0 one.0.1, one.0.2)), one.1)
    ],
    λ there. elim there [
      | inl was ↦ (adds.members x k).1 (inl was)
      | inr one ↦ (adds.members x k).1 (inr ((one.0.1.0, are.same.1 one.0.1.0 one.0.1.1, one.0.1.2), one.1))
    ],
  );
}

-- a top that is not negative
pub other_shown : (P : Type 0) (nodes : List Node) (top : ℕ) (old : BTreeMap ℕ (List ℕ)) → (P → ⊥) → AddsShown (λ x. P × HasVariable nodes top x) top old old
other_shown P nodes top old none = record { members = λ x k. (λ there. inl there, λ there. elim there [ inl was ↦ was | inr one ↦ absurd (none one.0.0) ]) }

module _ (nodes : List Node) (signs : List (Option Polarity)) where
  pub tops_first : (showing : BTreeMap ℕ (List ℕ)) → IsEmpty showing → ShowTopsTo 0 nodes signs showing
  tops_first showing none x k = (
    λ it.
        let empty : shown_by showing x ≡ [] = ap (λ (o : Option (List ℕ)). unwrap_or o []) (ap (lookup (is_at (nat_cmp x))) none) in
        let there : Contains [] k = subst (λ (s : List ℕ). Contains s k) empty it in
        let low : there.0 < 0 = there.1 in
        absurd (omega arith),
    λ it. let low : k < 0 = it.0 in absurd (omega arith),
  )

  -- the next top
  pub tops_more : (i : ℕ) (d : Option Polarity) (old new : BTreeMap ℕ (List ℕ)) → i < length signs → ShowTopsTo i nodes signs old
      → AddsShown (λ x. (get_or signs i d ≡ Some Negative) × HasVariable nodes i x) i old new → ShowTopsTo (i + 1) nodes signs new
  tops_more i d old new low before adds x k = (
    λ it. elim ((adds.members x k).0 it) [
      | inl was ↦ let one = (before x k).0 was in let lower : k < i = one.0 in (omega arith, one.1, one.2)
      | inr one ↦
          let same : k ≡ i = one.1 in
          let here : (sign_at signs k ≡ Some Negative) × HasVariable nodes k x = subst (λ j. (sign_at signs j ≡ Some Negative) × HasVariable nodes j x) (sym same) (sym default ∙ one.0.0, one.0.1) in
          (omega arith, here.0, here.1)
    ],
    λ it. go it (below_or_more k i),
  )
    where
      default : get_or signs i d ≡ sign_at signs i
      default = get_or_default signs i d None low

      go : (k < i + 1) × (sign_at signs k ≡ Some Negative) × HasVariable nodes k x → (k < i) ⊎ ((j : ℕ) × (k ≡ i + j)) → Contains (shown_by new x) k
      go it (inl lower) = (adds.members x k).1 (inl ((before x k).1 (lower, it.1, it.2)))
      go it (inr (j, e)) =
          let high : k < i + 1 = it.0 in
          let same : k ≡ i = omega arith in
          let here : (sign_at signs i ≡ Some Negative) × HasVariable nodes i x = subst (λ j. (sign_at signs j ≡ Some Negative) × HasVariable nodes j x) same (it.1, it.2) in
          (adds.members x k).1 (inr ((default ∙ here.0, here.1), same))

  -- what has a sign is in the list
  signed_low : (k : ℕ) (p : Polarity) → sign_at signs k ≡ Some p → k < length signs
  signed_low k p e = go (below_or_more k (length signs))
    where
      go : (k < length signs) ⊎ ((j : ℕ) × (k ≡ length signs + j)) → k < length signs
      go (inl lower) = lower
      go (inr (j, more)) = let past : sign_at signs k ≡ None = get_or_past signs k None (omega arith) in absurd (cc)

  pub tops_all : (root : ℕ) (showing : BTreeMap ℕ (List ℕ)) → AreSigned nodes root signs → ShowTopsTo (length signs) nodes signs showing → ShowTops nodes root showing
  tops_all root showing signed are = record {
    signs = signs;
    signed = signed;
    members = λ x k. (
      (λ it. let one = (are x k).0 it in (one.1, one.2)),
      (λ it. (are x k).1 (signed_low k Negative it.0, it.0, it.1)),
    );
  }
