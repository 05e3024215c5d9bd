-- For each state the sets that have it.
--     taken-before, taken-last, taken-cases   one more element of a list
--     adds-more, adds-all                     one more member of a set
--     holders-none, holders-more              one more set
use Rattle.std.proofs.Common.{◌≡◌, ◌⊎◌, inl, inr, ◌↔◌, ℕ, ◌+◌, ◌<◌, ◌≤◌, List, [], ◌∷◌, ◌++◌, sym, ap, ◌∙◌, subst, arith, length, take, get_or, set, All, Contains}
use Rattle.std.proofs.lemmas.Bool.{cases_eq}
use Rattle.std.proofs.lemmas.List.{get_or_default, take_more, take_all, get_or-set_same, get_or-set_other, length-set}
use Rattle.std.proofs.lemmas.List.Elements.{Contains-append_left, Contains-append_right, Contains-append_cases}
use Rattle.mls_automaton.proofs.Lists.{Contains-here, Contains-cases}
use Rattle.mls_shape.specs.declared.register.SetState.{SetState}
use Rattle.mls_shape.specs.steps.Edges.{set_at, AddsHolders, AreHolders}

-- one more element of a list
module _ {X : Type 0} (xs : List X) (i : ℕ) (d : X) (low : i < length xs) where
  pub taken-before : (x : X) → Contains (take i xs) x → Contains (take (i + 1) xs) x
  taken-before x it = subst (λ ys. Contains ys x) (sym (take_more xs i d low)) (Contains-append_left (take i xs) (get_or xs i d ∷ []) x it)

  pub taken-last : Contains (take (i + 1) xs) (get_or xs i d)
  taken-last =
      subst (λ ys. Contains ys (get_or xs i d)) (sym (take_more xs i d low))
      (Contains-append_right (take i xs) (get_or xs i d ∷ []) (get_or xs i d) (Contains-here (get_or xs i d) []))

  pub taken-cases : (x : X) → Contains (take (i + 1) xs) x → Contains (take i xs) x ⊎ (x ≡ get_or xs i d)
  taken-cases x it =
      elim (Contains-append_cases (take i xs) (get_or xs i d ∷ []) x (subst (λ ys. Contains ys x) (take_more xs i d low) it)) [
        | inl before ↦ inl before
        | inr last ↦
            elim (Contains-cases (get_or xs i d) [] x last) [
              | inl same ↦ inr (sym same)
              | inr none ↦ let low : none.0 < 0 = none.1 in absurd (omega arith)
            ]
      ]

-- one more member of the list
module _ (old mid : List (List ℕ)) (used : ℕ) (members : List ℕ) (k : ℕ) (low : k < length members)
    (it : AddsHolders old mid (λ u j. (u ≡ used) × Contains (take k members) j))
    (was pushed : List ℕ) where
  abbrev m : ℕ
  m = get_or members k 0

  abbrev new : List (List ℕ)
  new = set mid m pushed

  pub adds-more : m < length old → was ≡ get_or mid m was → pushed ≡ was ++ used ∷ [] → AddsHolders old new (λ u j. (u ≡ used) × Contains (take (k + 1) members) j)
  adds-more inside is-was is-pushed = record { same_length = length-set mid m pushed ∙ it.same_length; just = just }
    where
      here : get_or new m [] ≡ get_or mid m [] ++ used ∷ []
      here =
          let longer : m < length mid = rw it.same_length inside in
          get_or-set_same mid m pushed [] longer ∙ is-pushed ∙ ap (λ us. us ++ used ∷ []) (is-was ∙ get_or_default mid m was [] longer)

      at : (u : ℕ) → Contains (get_or new m []) u ↔ (Contains (get_or old m []) u ⊎ ((u ≡ used) × Contains (take (k + 1) members) m))
      at u = (
        (λ h. elim (Contains-append_cases (get_or mid m []) (used ∷ []) u (subst (λ us. Contains us u) here h)) [
          | inl before ↦
              elim ((it.just u m inside).0 before) [
                | inl first ↦ inl first
                | inr added ↦ inr (added.0, taken-before members k 0 low m added.1)
              ]
          | inr last ↦
              elim (Contains-cases used [] u last) [
                | inl same ↦ inr (sym same, taken-last members k 0 low)
                | inr none ↦ let no : none.0 < 0 = none.1 in absurd (omega arith)
              ]
        ]),
        (λ h. subst (λ us. Contains us u) (sym here)
            (elim h [
              | inl first ↦ Contains-append_left (get_or mid m []) (used ∷ []) u ((it.just u m inside).1 (inl first))
              | inr added ↦ Contains-append_right (get_or mid m []) (used ∷ []) u (subst (λ v. Contains (used ∷ []) v) (sym added.0) (Contains-here used []))
            ])),
      )

      elsewhere : (u j : ℕ) → j < length old → (j ≡ m → ⊥) → Contains (get_or new j []) u ↔ (Contains (get_or old j []) u ⊎ ((u ≡ used) × Contains (take (k + 1) members) j))
      elsewhere u j inside-j other =
          let same : get_or new j [] ≡ get_or mid j [] = get_or-set_other mid m j pushed [] other in (
            (λ h. elim ((it.just u j inside-j).0 (subst (λ us. Contains us u) same h)) [
              | inl first ↦ inl first
              | inr added ↦ inr (added.0, taken-before members k 0 low j added.1)
            ]),
            (λ h. subst (λ us. Contains us u) (sym same)
                ((it.just u j inside-j).1
                (elim h [
                  | inl first ↦ inl first
                  | inr added ↦
                      elim (taken-cases members k 0 low j added.1) [
                        | inl before ↦ inr (added.0, before)
                        | inr last ↦ absurd (other last)
                      ]
                ]))),
          )

      just : (u j : ℕ) → j < length old → Contains (get_or new j []) u ↔ (Contains (get_or old j []) u ⊎ ((u ≡ used) × Contains (take (k + 1) members) j))
      just u j inside-j =
          elim (cases_eq j m) [
            | inl same ↦ subst (λ n. Contains (get_or new n []) u ↔ (Contains (get_or old n []) u ⊎ ((u ≡ used) × Contains (take (k + 1) members) n))) (sym same) (at u)
            | inr other ↦ elsewhere u j inside-j other
          ]

pub adds-all : (old new : List (List ℕ)) (used : ℕ) (members : List ℕ) (k : ℕ) → length members ≤ k → AddsHolders old new (λ u j. (u ≡ used) × Contains (take k members) j) → AddsHolders old new (λ u j. (u ≡ used) × Contains members j)
adds-all old new used members k all it =
    let P : List ℕ → Type 0 = λ xs. AddsHolders old new (λ u j. (u ≡ used) × Contains xs j) in
    subst P (take_all k members all) it

-- one more set
pub holders-none : (sets : List SetState) (count : ℕ) (holders : List (List ℕ)) → length holders ≡ count → All (λ list. list ≡ []) holders → AreHolders sets count 0 holders
holders-none sets count holders size empty = record {
  same_length = size;
  just = λ u j inside. (
    (λ it.
        let low : j < length holders = rw size inside in
        let none = subst (λ us. Contains us u) (empty j [] low) it in
        let no : none.0 < 0 = none.1 in
        absurd (omega arith)),
    (λ it. let no : u < 0 = it.0 in absurd (omega arith)),
  );
}

pub holders-more : (sets : List SetState) (count i : ℕ) (old new : List (List ℕ)) → AreHolders sets count i old → AddsHolders old new (λ u j. (u ≡ i) × Contains (set_at sets i).members j) → AreHolders sets count (i + 1) new
holders-more sets count i old new are adds = record {
  same_length = adds.same_length ∙ are.same_length;
  just = λ u j inside.
      let low : j < length old = rw are.same_length inside in (
        (λ it. elim ((adds.just u j low).0 it) [
          | inl was ↦ let before = (are.just u j inside).0 was in let less : u < i = before.0 in (omega arith, before.1)
          | inr added ↦ let same : u ≡ i = added.0 in (omega arith, subst (λ k. Contains (set_at sets k).members j) (sym same) added.1)
        ]),
        (λ it. elim (cases_eq u i) [
          | inl same ↦ (adds.just u j low).1 (inr (same, subst (λ k. Contains (set_at sets k).members j) same it.1))
          | inr other ↦
              let below : u < i + 1 = it.0 in
              let less : u < i = omega arith in
              (adds.just u j low).1 (inl ((are.just u j inside).1 (less, it.1)))
        ]),
      );
}
