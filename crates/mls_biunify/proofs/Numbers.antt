-- The numbers of states, one after another.
use Rattle.std.proofs.Common.{◌≡◌, ◌↔◌, ◌⊎◌, inl, inr, ℕ, ◌+◌, ◌<◌, Bool, true, false, List, Contains, get_or, sym, subst, arith}
use Rattle.std.proofs.lemmas.Bool.{cases_eq}

pub number-free : (set : List ℕ) (s : ℕ) (b : Bool) → b ≡ false → (j : ℕ) → Contains set j ↔ (Contains set j ⊎ ((j ≡ s) × (b ≡ true)))
number-free set s b e j = (
  λ it. inl it,
  λ it. elim it [ inl before ↦ before | inr here ↦ let f : b ≡ true = here.1 in absurd (cc) ],
)

pub number-put : (old new : List ℕ) (s : ℕ) (b : Bool) → b ≡ true → ((j : ℕ) → Contains new j ↔ (j ≡ s) ⊎ Contains old j) → (j : ℕ) → Contains new j ↔ (Contains old j ⊎ ((j ≡ s) × (b ≡ true)))
number-put old new s b e it j = (
  λ there. elim ((it j).0 there) [ inl here ↦ inr (here, e) | inr before ↦ inl before ],
  λ both. (it j).1 (elim both [ inl before ↦ inr before | inr here ↦ inl here.0 ]),
)

pub numbers-more : (there : List Bool) (old new : List ℕ) (s : ℕ) → ((j : ℕ) → Contains old j ↔ ((j < s) × (get_or there j false ≡ true))) → ((j : ℕ) → Contains new j ↔ (Contains old j ⊎ ((j ≡ s) × (get_or there s false ≡ true)))) → (j : ℕ) → Contains new j ↔ ((j < s + 1) × (get_or there j false ≡ true))
numbers-more there old new s so_far it j = (
  λ new_there.
      elim ((it j).0 new_there) [
        | inl before ↦ let both = (so_far j).0 before in let low : j < s = both.0 in (omega arith, both.1)
        | inr here ↦ let same : j ≡ s = here.0 in (omega arith, subst (λ k. get_or there k false ≡ true) (sym same) here.1)
      ],
  λ both.
      (it j).1 (elim (cases_eq j s) [
        | inl same ↦ inr (same, subst (λ k. get_or there k false ≡ true) same both.1)
        | inr differs ↦ let low : j < s + 1 = both.0 in inl ((so_far j).1 (omega (arith, differs), both.1))
      ]),
)
