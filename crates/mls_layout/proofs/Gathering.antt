-- Nodes that are gathered in lists.
--     gathers_none, gathers_append, gathers_one, gathers_then, gathers_same
--     gathers_more, gathers_all       what the elements of a list give
--     gathered                        the members of a list that was empty first
use Rattle.std.proofs.Common.{◌≡◌, ◌⊎◌, inl, inr, ℕ, ◌+◌, ◌<◌, ◌≤◌, List, [], ◌∷◌, ◌++◌, length, take, sym, ap, subst}
use Rattle.std.specs.Prelude.{◌↔◌, Contains, get_or}
use Rattle.std.proofs.lemmas.List.Elements.{Contains-append_left, Contains-append_right, Contains-append_cases, Contains-push, Contains-push_cases}
use Rattle.mls_book.specs.declared.book.NodeId.{NodeId}
use Rattle.mls_solver.proofs.Relating.{taken-before, taken-last, taken-cases, take-all}
use Rattle.mls_layout.specs.Trees.{IsNodeIn}
use Rattle.mls_layout.specs.steps.Sources.{Gathers}
use Rattle.mls_layout.proofs.WorkedParts.{nothing}

-- some element of the list gives the node
abbrev pub BySome : {X : Type 0} → List X → (X → ℕ → Type 0) → ℕ → Type 0
BySome {X} xs By i = (x : X) × Contains xs x × By x i

pub gathers_none : (P : ℕ → Type 0) (ids : List NodeId) → ((i : ℕ) → P i → ⊥) → Gathers P ids ids
gathers_none P ids never i = (λ it. inl it, λ it. elim it [ inl before ↦ before | inr new ↦ absurd (never i new) ])

pub gathers_append : (old others new : List NodeId) → new ≡ old ++ others → Gathers (IsNodeIn others) old new
gathers_append old others new is i = (to, from)
  where
    to : IsNodeIn new i → IsNodeIn old i ⊎ IsNodeIn others i
    to it = Contains-append_cases old others (record { 0 = i }) (subst (λ (ids : List NodeId). IsNodeIn ids i) is it)

    from : IsNodeIn old i ⊎ IsNodeIn others i → IsNodeIn new i
    from (inl it) = subst (λ (ids : List NodeId). IsNodeIn ids i) (sym is) (Contains-append_left old others (record { 0 = i }) it)
    from (inr it) = subst (λ (ids : List NodeId). IsNodeIn ids i) (sym is) (Contains-append_right old others (record { 0 = i }) it)

pub gathers_one : (old new : List NodeId) (id : NodeId) → new ≡ old ++ id ∷ [] → Gathers (λ i. id.0 ≡ i) old new
gathers_one old new id is i = (to, from)
  where
    to : IsNodeIn new i → IsNodeIn old i ⊎ (id.0 ≡ i)
    to it = elim (Contains-push_cases old id (record { 0 = i }) (subst (λ (ids : List NodeId). IsNodeIn ids i) is it)) [
      | inl before ↦ inl before
      | inr same ↦ inr (ap (λ (n : NodeId). n.0) same)
    ]

    from : IsNodeIn old i ⊎ (id.0 ≡ i) → IsNodeIn new i
    from (inl it) = subst (λ (ids : List NodeId). IsNodeIn ids i) (sym is) (Contains-append_left old (id ∷ []) (record { 0 = i }) it)
    from (inr same) = subst (λ (ids : List NodeId). IsNodeIn ids i) (sym is) (subst (λ k. IsNodeIn (old ++ id ∷ []) k) same (Contains-push old id))

-- first the ones, then the others
pub gathers_then : (P Q R : ℕ → Type 0) (old now new : List NodeId) → Gathers P old now → Gathers Q now new → ((i : ℕ) → P i ⊎ Q i → R i) → ((i : ℕ) → R i → P i ⊎ Q i) → Gathers R old new
gathers_then P Q R old now new one two to from i = (forth, back)
  where
    forth : IsNodeIn new i → IsNodeIn old i ⊎ R i
    forth it = elim ((two i).0 it) [
      | inl before ↦ elim ((one i).0 before) [ inl first ↦ inl first | inr p ↦ inr (to i (inl p)) ]
      | inr q ↦ inr (to i (inr q))
    ]

    back : IsNodeIn old i ⊎ R i → IsNodeIn new i
    back (inl it) = (two i).1 (inl ((one i).1 (inl it)))
    back (inr r) = elim (from i r) [
      | inl p ↦ (two i).1 (inl ((one i).1 (inr p)))
      | inr q ↦ (two i).1 (inr q)
    ]

pub gathers_same : (P Q : ℕ → Type 0) (old new : List NodeId) → ((i : ℕ) → P i ↔ Q i) → Gathers P old new → Gathers Q old new
gathers_same P Q old new same it i = (
  λ there. elim ((it i).0 there) [ inl before ↦ inl before | inr p ↦ inr ((same i).0 p) ],
  λ there. elim there [ inl before ↦ (it i).1 (inl before) | inr q ↦ (it i).1 (inr ((same i).1 q)) ],
)

-- one more element of a list
pub gathers_more : {X : Type 0} (By : X → ℕ → Type 0) (xs : List X) (k : ℕ) (d : X) (old now new : List NodeId) → k < length xs → Gathers (BySome (take k xs) By) old now → Gathers (By (get_or xs k d)) now new
    → Gathers (BySome (take (k + 1) xs) By) old new
gathers_more {X} By xs k d old now new low one two =
    gathers_then (BySome (take k xs) By) (By (get_or xs k d)) (BySome (take (k + 1) xs) By) old now new one two
    (λ i s. elim s [
      | inl it ↦ (it.0, taken-before xs k d low it.0 it.1, it.2)
      | inr it ↦ (get_or xs k d, taken-last xs k d low, it)
    ])
    (λ i it. elim (taken-cases xs k d low it.0 it.1) [
      | inl before ↦ inl (it.0, before, it.2)
      | inr same ↦ inr (subst (λ (x : X). By x i) same it.2)
    ])

pub gathers_first : {X : Type 0} (By : X → ℕ → Type 0) (xs : List X) (ids : List NodeId) → Gathers (BySome (take 0 xs) By) ids ids
gathers_first {X} By xs ids = gathers_none (BySome (take 0 xs) By) ids (λ i it. nothing it.0 it.1)

pub gathers_all : {X : Type 0} (By : X → ℕ → Type 0) (xs : List X) (k : ℕ) (old new : List NodeId) → length xs ≤ k → Gathers (BySome (take k xs) By) old new → Gathers (BySome xs By) old new
gathers_all {X} By xs k old new all it = subst (λ (ys : List X). Gathers (BySome ys By) old new) (take-all xs k all) it

pub gathered : (P : ℕ → Type 0) (old new : List NodeId) → old ≡ [] → Gathers P old new → (i : ℕ) → IsNodeIn new i ↔ P i
gathered P old new none it i = (
  λ there. elim ((it i).0 there) [
    | inl before ↦ absurd (nothing (record { 0 = i }) (subst (λ (ids : List NodeId). IsNodeIn ids i) none before))
    | inr p ↦ p
  ],
  λ p. (it i).1 (inr p),
)
