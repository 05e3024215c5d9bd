-- How the lists in which a claim stands are found.
use Rattle.std.proofs.Common.{◌≡◌, ◌⊎◌, inl, inr, ◌↔◌, ℕ, ◌+◌, ◌<◌, ◌≤◌, Bool, true, false, List, [], ◌∷◌, ◌++◌, refl, sym, ap, ◌∙◌, subst, arith, length, take, get_or, set, Contains}
use Rattle.std.proofs.lemmas.Bool.{cases_eq}
use Rattle.std.proofs.lemmas.List.{get_or_default, take_more, take_all, get_or-set_same, get_or-set_other, length-set}
use Rattle.std.proofs.lemmas.List.Elements.{Contains-append_left, Contains-append_right, Contains-append_cases}
use Rattle.mls_automaton.proofs.Lists.{Contains-here, Contains-cases}
use Rattle.mls_flow.specs.declared.standing.Claim.{Claim}
use Rattle.mls_flow.specs.declared.standing.Use.{Use}
use Rattle.mls_flow.specs.Claims.{way, claim_at}
use Rattle.mls_flow.specs.steps.Losing.{AddsUses, IsIn, IsUse, IsUsesOf}

-- one more element of a list
module _ {X : Type 0} (xs : List X) (i : ℕ) (d : X) (low : i < length xs) where
  taken-before : (x : X) → Contains (take i xs) x → Contains (take (i + 1) xs) x
  taken-before x it = subst (λ ys. Contains ys x) (sym (take_more xs i d low)) (Contains-append_left (take i xs) (get_or xs i d ∷ []) x it)

  taken-last : Contains (take (i + 1) xs) (get_or xs i d)
  taken-last =
      subst (λ ys. Contains ys (get_or xs i d)) (sym (take_more xs i d low))
      (Contains-append_right (take i xs) (get_or xs i d ∷ []) (get_or xs i d) (Contains-here (get_or xs i d) []))

  taken-cases : (x : X) → Contains (take (i + 1) xs) x → Contains (take i xs) x ⊎ (x ≡ get_or xs i d)
  taken-cases x it =
      elim (Contains-append_cases (take i xs) (get_or xs i d ∷ []) x (subst (λ ys. Contains ys x) (take_more xs i d low) it)) [
        | inl before ↦ inl before
        | inr last ↦
            elim (Contains-cases (get_or xs i d) [] x last) [
              | inl same ↦ inr (sym same)
              | inr none ↦ let low : none.0 < 0 = none.1 in absurd (omega arith)
            ]
      ]

-- one more member of the list
module _ (old mid : List (List Use)) (used : Use) (members : List ℕ) (k : ℕ) (low : k < length members)
    (it : AddsUses old mid (λ u j. (u ≡ used) × Contains (take k members) j))
    (was pushed : List Use) where
  abbrev m : ℕ
  m = get_or members k 0

  abbrev new : List (List Use)
  new = set mid m pushed

  pub adds-more : m < length old → was ≡ get_or mid m was → pushed ≡ was ++ used ∷ [] → AddsUses old new (λ u j. (u ≡ used) × Contains (take (k + 1) members) j)
  adds-more inside is-was is-pushed = record { same_length = length-set mid m pushed ∙ it.same_length; just = just }
    where
      here : get_or new m [] ≡ get_or mid m [] ++ used ∷ []
      here =
          let longer : m < length mid = rw it.same_length inside in
          get_or-set_same mid m pushed [] longer ∙ is-pushed ∙ ap (λ us. us ++ used ∷ []) (is-was ∙ get_or_default mid m was [] longer)

      at : (u : Use) → Contains (get_or new m []) u ↔ (Contains (get_or old m []) u ⊎ ((u ≡ used) × Contains (take (k + 1) members) m))
      at u = (
        (λ h. elim (Contains-append_cases (get_or mid m []) (used ∷ []) u (subst (λ us. Contains us u) here h)) [
          | inl before ↦
              elim ((it.just u m inside).0 before) [
                | inl first ↦ inl first
                | inr added ↦ inr (added.0, taken-before members k 0 low m added.1)
              ]
          | inr last ↦
              elim (Contains-cases used [] u last) [
                | inl same ↦ inr (sym same, taken-last members k 0 low)
                | inr none ↦ let no : none.0 < 0 = none.1 in absurd (omega arith)
              ]
        ]),
        (λ h. subst (λ us. Contains us u) (sym here)
            (elim h [
              | inl first ↦ Contains-append_left (get_or mid m []) (used ∷ []) u ((it.just u m inside).1 (inl first))
              | inr added ↦ Contains-append_right (get_or mid m []) (used ∷ []) u (subst (λ v. Contains (used ∷ []) v) (sym added.0) (Contains-here used []))
            ])),
      )

      elsewhere : (u : Use) (j : ℕ) → j < length old → (j ≡ m → ⊥) → Contains (get_or new j []) u ↔ (Contains (get_or old j []) u ⊎ ((u ≡ used) × Contains (take (k + 1) members) j))
      elsewhere u j inside-j other =
          let same : get_or new j [] ≡ get_or mid j [] = get_or-set_other mid m j pushed [] other in (
            (λ h. elim ((it.just u j inside-j).0 (subst (λ us. Contains us u) same h)) [
              | inl first ↦ inl first
              | inr added ↦ inr (added.0, taken-before members k 0 low j added.1)
            ]),
            (λ h. subst (λ us. Contains us u) (sym same)
                ((it.just u j inside-j).1
                (elim h [
                  | inl first ↦ inl first
                  | inr added ↦
                      elim (taken-cases members k 0 low j added.1) [
                        | inl before ↦ inr (added.0, before)
                        | inr last ↦ absurd (other last)
                      ]
                ]))),
          )

      just : (u : Use) (j : ℕ) → j < length old → Contains (get_or new j []) u ↔ (Contains (get_or old j []) u ⊎ ((u ≡ used) × Contains (take (k + 1) members) j))
      just u j inside-j =
          elim (cases_eq j m) [
            | inl same ↦ subst (λ n. Contains (get_or new n []) u ↔ (Contains (get_or old n []) u ⊎ ((u ≡ used) × Contains (take (k + 1) members) n))) (sym same) (at u)
            | inr other ↦ elsewhere u j inside-j other
          ]

-- the same uses in other words
pub adds-same : (old after : List (List Use)) (First Second : Use → ℕ → Type 0) → AddsUses old after First → ((u : Use) (j : ℕ) → First u j → Second u j) → ((u : Use) (j : ℕ) → Second u j → First u j) → AddsUses old after Second
adds-same old after First Second it to from = record {
  same_length = it.same_length;
  just = λ u j inside. (
    (λ h. elim ((it.just u j inside).0 h) [ inl first ↦ inl first | inr added ↦ inr (to u j added) ]),
    (λ h. (it.just u j inside).1 (elim h [ inl first ↦ inl first | inr added ↦ inr (from u j added) ])),
  );
}

pub adds-all : (old new : List (List Use)) (used : Use) (members : List ℕ) (k : ℕ) → length members ≤ k → AddsUses old new (λ u j. (u ≡ used) × Contains (take k members) j) → AddsUses old new (λ u j. (u ≡ used) × Contains members j)
adds-all old new used members k all it =
    let P : List ℕ → Type 0 = λ xs. AddsUses old new (λ u j. (u ≡ used) × Contains xs j) in
    subst P (take_all k members all) it

-- both lists of one more claim
module _ (claims : List Claim) (i : ℕ) (low : i < length claims) (before first second : List (List Use)) where
  abbrev Upto : ℕ → List (List Use) → Type 0
  Upto n uses = (length uses ≡ length claims) × ((u : Use) (j : ℕ) → j < length claims → Contains (get_or uses j []) u ↔ ((u.claim < n) × IsUse claims u j))

  abbrev ByWay : Bool → Use → ℕ → Type 0
  ByWay is_second u j = (u ≡ record { claim = i; is_second = is_second }) × IsIn (way (claim_at claims i) is_second) j

  to-use : (is_second : Bool) (u : Use) (j : ℕ) → ByWay is_second u j → (u.claim < i + 1) × IsUse claims u j
  to-use is_second u j it =
      let P : Use → Type 0 = λ v. (v.claim < i + 1) × IsUse claims v j in
      subst P (sym it.0) (omega arith, it.1)

  from-use : (u : Use) (j : ℕ) → u.claim ≡ i → IsUse claims u j → ByWay false u j ⊎ ByWay true u j
  from-use u j same it = go u.is_second refl
    where
      is : (b : Bool) → u.is_second ≡ b → u ≡ record { claim = i; is_second = b }
      is b e = λ t. record { claim = same t; is_second = e t }

      inside : (b : Bool) → u.is_second ≡ b → IsIn (way (claim_at claims i) b) j
      inside b e = subst (λ (v : Use). IsUse claims v j) (is b e) it

      go : (b : Bool) → u.is_second ≡ b → ByWay false u j ⊎ ByWay true u j
      go false e = inl (is false e, inside false e)
      go true e = inr (is true e, inside true e)

  pub uses-more : Upto i before → AddsUses before first (ByWay false) → AddsUses first second (ByWay true) → Upto (i + 1) second
  uses-more upto one other = (other.same_length ∙ one.same_length ∙ upto.0, just)
    where
      just : (u : Use) (j : ℕ) → j < length claims → Contains (get_or second j []) u ↔ ((u.claim < i + 1) × IsUse claims u j)
      just u j inside =
          let b : j < length before = rw upto.0 inside in
          let f : j < length first = rw one.same_length b in (
            (λ h. elim ((other.just u j f).0 h) [
              | inl was ↦
                  elim ((one.just u j b).0 was) [
                    | inl old ↦ let it = (upto.1 u j inside).0 old in let smaller : u.claim < i = it.0 in (omega arith, it.1)
                    | inr added ↦ to-use false u j added
                  ]
              | inr added ↦ to-use true u j added
            ]),
            (λ h. elim (cases_eq u.claim i) [
              | inl same ↦
                  elim (from-use u j same h.1) [
                    | inl added ↦ (other.just u j f).1 (inl ((one.just u j b).1 (inr added)))
                    | inr added ↦ (other.just u j f).1 (inr added)
                  ]
              | inr unlike ↦
                  let up : u.claim < i + 1 = h.0 in
                  let smaller : u.claim < i = omega arith in
                  (other.just u j f).1 (inl ((one.just u j b).1 (inl ((upto.1 u j inside).1 (smaller, h.1)))))
            ]),
          )

pub uses-all : (claims : List Claim) (n : ℕ) (uses : List (List Use)) → length claims ≤ n → n ≤ length claims → (length uses ≡ length claims) × ((u : Use) (j : ℕ) → j < length claims → Contains (get_or uses j []) u ↔ ((u.claim < n) × IsUse claims u j)) → IsUsesOf claims uses
uses-all claims n uses up down it = record {
  same_length = it.0;
  just = λ u j inside. (
    (λ h. let a = (it.1 u j inside).0 h in let low : u.claim < n = a.0 in (omega arith, a.1)),
    (λ h. let low : u.claim < length claims = h.0 in (it.1 u j inside).1 (omega arith, h.1)),
  );
}
