-- Numbers sorted, each once.
use Rattle.std.proofs.Common.{◌≡◌, ◌↔◌, ℕ, ◌+◌, suc, ◌<◌, List, [], ◌∷◌, arith, subst, length, Contains}
use Rattle.std.specs.List.{dedup, slice_index}
use Rattle.std.specs.List.Sorted.{IsPermutation, IsSorted, IsStrictlyIncreasing}
use Rattle.std.specs.Ordering.{nat_cmp}
use Rattle.std.proofs.lemmas.List.Sorted.{IsPermutation-sym, Contains-permutation}
use Rattle.std.proofs.lemmas.List.Kept.{AllPairs-from_increasing, Contains-dedup_nat, Contains-from_dedup}
use Rattle.std.proofs.lemmas.Map.Keys.{IsStrictlyIncreasing-dedup}
use Rattle.std.specs.Prelude.{nat_eq}
use Rattle.mls_print.specs.steps.Rising.{AreRisingNumbers}

pub rising-from : (xs : List ℕ) → IsStrictlyIncreasing xs → AreRisingNumbers xs
rising-from [] up = tt
rising-from (x ∷ rest) up =
    let pairs = AllPairs-from_increasing (x ∷ rest) up in (
      (λ k d low. pairs 0 (suc k) d (omega arith) (omega arith)),
      rising-from rest
          (λ k low.
          let e : suc k + 1 ≡ suc (k + 1) = omega arith in
          let P : ℕ → Type 0 = λ n. slice_index (x ∷ rest) (suc k) < slice_index (x ∷ rest) n in
          let high : suc k + 1 < length (x ∷ rest) = omega arith in
          subst P e (up (suc k) high)),
    )

pub sorted_once : (xs ys : List ℕ) → IsPermutation xs ys → IsSorted nat_cmp ys → AreRisingNumbers (dedup nat_eq ys)
sorted_once xs ys same sorted = rising-from (dedup nat_eq ys) (IsStrictlyIncreasing-dedup ys sorted)

pub same_members : (xs ys : List ℕ) → IsPermutation xs ys → (x : ℕ) → Contains (dedup nat_eq ys) x ↔ Contains xs x
same_members xs ys same x = (
  λ it. Contains-permutation ys xs x (IsPermutation-sym xs ys same) (Contains-from_dedup nat_eq ys x it),
  λ it. Contains-dedup_nat ys x (Contains-permutation xs ys x same it),
)
