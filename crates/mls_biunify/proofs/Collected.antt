-- What is collected from the elements of a list, one after another.
use Rattle.std.proofs.Common.{◌≡◌, ◌↔◌, ◌⊎◌, inl, inr, ℕ, ◌+◌, ◌<◌, ◌≤◌, List, [], ◌∷◌, ◌++◌, take, length, get_or, Contains, refl, sym, subst, arith}
use Rattle.std.proofs.lemmas.List.Elements.{Contains-append_left, Contains-push, Contains-push_cases}
use Rattle.mls_solver.proofs.Relating.{taken-before, taken-last, taken-cases, take-all}
use Rattle.mls_biunify.specs.steps.Settlement.{GivenBy}

module _ {X Y : Type 0} (By : X → Y → Type 0) (Old : Y → Type 0) where
  abbrev pub Collected : (Y → Type 0) → List X → Type 0
  Collected New xs = (y : Y) → New y ↔ (Old y ⊎ GivenBy xs By y)

  pub collected-none : (xs : List X) → Collected Old (take 0 xs)
  collected-none xs y = (
    λ it. inl it,
    λ it.
        elim it [
          | inl old ↦ old
          | inr none ↦ let low : none.1.0 < 0 = none.1.1 in absurd (omega arith)
        ],
  )

  pub collected-more : (Mid New : Y → Type 0) (xs : List X) (i : ℕ) (d : X) → i < length xs → Collected Mid (take i xs) → ((y : Y) → New y ↔ (Mid y ⊎ By (get_or xs i d) y)) → Collected New (take (i + 1) xs)
  collected-more Mid New xs i d low so_far step y = (
    λ it.
        elim ((step y).0 it) [
          | inl before ↦ elim ((so_far y).0 before) [
            | inl old ↦ inl old
            | inr given ↦ inr (given.0, taken-before xs i d low given.0 given.1, given.2)
          ]
          | inr here ↦ inr (get_or xs i d, taken-last xs i d low, here)
        ],
    λ it.
        (step y).1 (elim it [
          | inl old ↦ inl ((so_far y).1 (inl old))
          | inr given ↦ elim (taken-cases xs i d low given.0 given.1) [
            | inl earlier ↦ inl ((so_far y).1 (inr (given.0, earlier, given.2)))
            | inr same ↦ inr (subst (λ x. By x y) same given.2)
          ]
        ]),
  )

  pub collected-all : (New : Y → Type 0) (xs : List X) (i : ℕ) → length xs ≤ i → Collected New (take i xs) → Collected New xs
  collected-all New xs i high it = subst (Collected New) (take-all xs i high) it

pub swapped : (New Mid : ℕ → Type 0) (x : ℕ) → ((j : ℕ) → New j ↔ (j ≡ x) ⊎ Mid j) → (j : ℕ) → New j ↔ (Mid j ⊎ (j ≡ x))
swapped New Mid x it j = (
  λ new. elim ((it j).0 new) [ inl here ↦ inr here | inr before ↦ inl before ],
  λ both. (it j).1 (elim both [ inl before ↦ inr before | inr here ↦ inl here ]),
)

-- the members of a list
pub each_given : (Old New : ℕ → Type 0) (xs ys : List ℕ) → xs ≡ ys → Collected (λ x y. y ≡ x) Old New xs → (j : ℕ) → New j ↔ (Old j ⊎ Contains ys j)
each_given Old New xs ys same it j = (
  λ new.
      elim ((it j).0 new) [
        | inl old ↦ inl old
        | inr given ↦ inr (subst (λ (zs : List ℕ). Contains zs j) same (subst (Contains xs) (sym given.2) given.1))
      ],
  λ both.
      (it j).1 (elim both [
        | inl old ↦ inl old
        | inr there ↦ inr (j, subst (λ (zs : List ℕ). Contains zs j) (sym same) there, refl)
      ]),
)

-- two sets are put in, one after the other
pub both_put : (Old Mid New A B Both : ℕ → Type 0) → ((j : ℕ) → Mid j ↔ (Old j ⊎ A j)) → ((j : ℕ) → New j ↔ (Mid j ⊎ B j)) → ((j : ℕ) → Both j ↔ (A j ⊎ B j)) → (j : ℕ) → New j ↔ (Old j ⊎ Both j)
both_put Old Mid New A B Both first second both j = (
  λ new.
      elim ((second j).0 new) [
        | inl mid ↦ elim ((first j).0 mid) [ inl old ↦ inl old | inr a ↦ inr ((both j).1 (inl a)) ]
        | inr b ↦ inr ((both j).1 (inr b))
      ],
  λ it.
      (second j).1 (elim it [
        | inl old ↦ inl ((first j).1 (inl old))
        | inr either ↦ elim ((both j).0 either) [ inl a ↦ inl ((first j).1 (inr a)) | inr b ↦ inr b ]
      ]),
)

pub same_given : {Y : Type 0} (New Old A B : Y → Type 0) → ((y : Y) → New y ↔ (Old y ⊎ A y)) → ((y : Y) → A y ↔ B y) → (y : Y) → New y ↔ (Old y ⊎ B y)
same_given New Old A B it same y = (
  λ new. elim ((it y).0 new) [ inl old ↦ inl old | inr a ↦ inr ((same y).0 a) ],
  λ both. (it y).1 (elim both [ inl old ↦ inl old | inr b ↦ inr ((same y).1 b) ]),
)

pub from_none : {X Y : Type 0} (By : X → Y → Type 0) (none : List Y) (New : Y → Type 0) (xs : List X) → none ≡ [] → Collected By (Contains none) New xs → (j : Y) → New j ↔ GivenBy xs By j
from_none By none New xs empty it j = (
  λ new.
      elim ((it j).0 new) [
        | inl old ↦
            let nothing : Contains [] j = subst (λ ys. Contains ys j) empty old in
            let low : nothing.0 < 0 = nothing.1 in
            absurd (omega arith)
        | inr given ↦ given
      ],
  λ given. (it j).1 (inr given),
)

pub pushed-one : {X : Type 0} (old new : List X) (x : X) → new ≡ old ++ x ∷ [] → (y : X) → Contains new y ↔ (Contains old y ⊎ (y ≡ x))
pushed-one {X} old new x e y = (
  λ it.
      elim (Contains-push_cases old x y (subst (λ (xs : List X). Contains xs y) e it)) [
        | inl before ↦ inl before
        | inr same ↦ inr (sym same)
      ],
  λ it.
      subst (λ (xs : List X). Contains xs y) (sym e)
      (elim it [
        | inl before ↦ Contains-append_left old (x ∷ []) y before
        | inr same ↦ subst (Contains (old ++ x ∷ [])) (sym same) (Contains-push old x)
      ]),
)
