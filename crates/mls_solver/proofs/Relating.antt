-- How rooms come to hold pairs, one after another.
use Rattle.std.proofs.Common.{◌≡◌, ◌⊎◌, inl, inr, ℕ, zero, suc, ◌+◌, ◌<◌, ◌≤◌, List, [], ◌∷◌, ◌++◌, refl, sym, ap, ◌∙◌, subst, arith, append_assoc, append-nil, length, take, get_or, Contains, add-one}
use Rattle.std.proofs.Math.Seq.{take-suc}
use Rattle.std.proofs.lemmas.List.{get_or_default}
use Rattle.std.proofs.lemmas.List.Elements.{Contains-append_left, Contains-append_right, Contains-append_cases}
use Rattle.mls_automaton.proofs.Lists.{Contains-here, Contains-cases}
use Rattle.mls_solver.specs.Rooms.{Room, Holds}
use Rattle.mls_solver.specs.steps.Growth.{BySome, Relates}

-- one more element of a list
module _ {X : Type 0} (xs : List X) (i : ℕ) (d : X) (low : i < length xs) where
  taken : take (i + 1) xs ≡ take i xs ++ get_or xs i d ∷ []
  taken = (λ j. take (add-one i j) xs) ∙ take-suc xs i d low

  pub taken-before : (x : X) → Contains (take i xs) x → Contains (take (i + 1) xs) x
  taken-before x it = subst (λ ys. Contains ys x) (sym taken) (Contains-append_left (take i xs) (get_or xs i d ∷ []) x it)

  pub taken-last : Contains (take (i + 1) xs) (get_or xs i d)
  taken-last =
      subst (λ ys. Contains ys (get_or xs i d)) (sym taken)
      (Contains-append_right (take i xs) (get_or xs i d ∷ []) (get_or xs i d) (Contains-here (get_or xs i d) []))

  pub taken-cases : (x : X) → Contains (take (i + 1) xs) x → Contains (take i xs) x ⊎ (x ≡ get_or xs i d)
  taken-cases x it =
      elim (Contains-append_cases (take i xs) (get_or xs i d ∷ []) x (subst (λ ys. Contains ys x) taken it)) [
        | inl before ↦ inl before
        | inr last ↦
            elim (Contains-cases (get_or xs i d) [] x last) [
              | inl same ↦ inr (sym same)
              | inr none ↦ let low : none.0 < 0 = none.1 in absurd (omega arith)
            ]
      ]

-- an element of a list of numbers
pub element : (xs : List ℕ) (i : ℕ) → i < length xs → Contains xs (get_or xs i 0)
element xs i low = (i, low, get_or_default xs i (get_or xs i 0) 0 low)

-- what was held is held
pub Relates-kept : (old new : Room) (IsNew : ℕ → ℕ → Type 0) → Relates old new IsNew → (p n : ℕ) → Holds old p n → Holds new p n
Relates-kept old new IsNew it p n held =
    subst (λ pairs. Contains pairs (p, n)) (sym it.behind.1) (Contains-append_left old.pairs it.behind.0 (p, n) held)

-- nothing is added
pub Relates-none : (room : Room) (IsNew : ℕ → ℕ → Type 0) → ((p n : ℕ) → IsNew p n → Holds room p n) → Relates room room IsNew
Relates-none room IsNew known = record {
  positives = refl;
  negatives = refl;
  rows = refl;
  columns = refl;
  behind = ([], sym (append-nil room.pairs));
  sound = λ p n it. inl it;
  complete = known;
}

-- the same pairs in other words
pub Relates-same : (old new : Room) (First Second : ℕ → ℕ → Type 0) → Relates old new First → ((p n : ℕ) → First p n → Second p n) → ((p n : ℕ) → Second p n → First p n) → Relates old new Second
Relates-same old new First Second it to from = record {
  positives = it.positives;
  negatives = it.negatives;
  rows = it.rows;
  columns = it.columns;
  behind = it.behind;
  sound = λ p n held. elim (it.sound p n held) [ inl before ↦ inl before | inr here ↦ inr (to p n here) ];
  complete = λ p n here. it.complete p n (from p n here);
}

-- first the ones, then the others
pub Relates-then : (old mid new : Room) (First Second All : ℕ → ℕ → Type 0) → Relates old mid First → Relates mid new Second → ((p n : ℕ) → First p n → All p n) → ((p n : ℕ) → Second p n → All p n) → ((p n : ℕ) → All p n → First p n ⊎ Second p n) → Relates old new All
Relates-then old mid new First Second All one two first second all = record {
  positives = two.positives ∙ one.positives;
  negatives = two.negatives ∙ one.negatives;
  rows = two.rows ∙ one.rows;
  columns = two.columns ∙ one.columns;
  behind = (
    one.behind.0 ++ two.behind.0,
    two.behind.1 ∙ ((λ i. one.behind.1 i ++ two.behind.0) ∙ append_assoc old.pairs one.behind.0 two.behind.0),
  );
  sound = λ p n it.
      elim (two.sound p n it) [
        | inl before ↦ elim (one.sound p n before) [ inl held ↦ inl held | inr here ↦ inr (first p n here) ]
        | inr here ↦ inr (second p n here)
      ];
  complete = λ p n it.
      elim (all p n it) [
        | inl here ↦ Relates-kept mid new Second two p n (one.complete p n here)
        | inr here ↦ two.complete p n here
      ];
}

-- the pairs of one more element of a list
pub Relates-more : {X : Type 0} (old mid new : Room) (xs : List X) (i : ℕ) (d : X) (By : X → ℕ → ℕ → Type 0) → i < length xs → Relates old mid (BySome (take i xs) By) → Relates mid new (By (get_or xs i d)) → Relates old new (BySome (take (i + 1) xs) By)
Relates-more {X} old mid new xs i d By low one two =
    Relates-then old mid new (BySome (take i xs) By) (By (get_or xs i d)) (BySome (take (i + 1) xs) By) one two
    (λ p n it. (it.0, taken-before xs i d low it.0 it.1, it.2))
    (λ p n it. (get_or xs i d, taken-last xs i d low, it))
    (λ p n it.
    elim (taken-cases xs i d low it.0 it.1) [
      | inl before ↦ inl (it.0, before, it.2)
      | inr same ↦ inr (subst (λ (x : X). By x p n) same it.2)
    ])

pub take-all : {X : Type 0} (xs : List X) (i : ℕ) → length xs ≤ i → take i xs ≡ xs
take-all [] zero all = refl
take-all [] (suc i) all = refl
take-all (x ∷ xs) zero all = absurd (omega arith)
take-all (x ∷ xs) (suc i) all = ap (λ ys. x ∷ ys) (take-all xs i (omega arith))

-- at the end of the list
pub Relates-all : {X : Type 0} (old new : Room) (xs : List X) (i : ℕ) (By : X → ℕ → ℕ → Type 0) → length xs ≤ i → Relates old new (BySome (take i xs) By) → Relates old new (BySome xs By)
Relates-all old new xs i By all it = subst (λ ys. Relates old new (BySome ys By)) (take-all xs i all) it
