-- Numbers that come to a set by the elements of a list, one after another.
use Rattle.std.proofs.Common.{inl, inr, ℕ, ◌+◌, ◌<◌, ◌≤◌, List, subst, arith, length, take, get_or}
use Rattle.mls_solver.specs.steps.Numbers.{Numbers, Inserts, ByOne}
use Rattle.mls_solver.proofs.NumberSteps.{Inserts-none, Inserts-kept, Inserts-then}
use Rattle.mls_solver.proofs.Relating.{taken-before, taken-last, taken-cases, take-all}

-- the same numbers in other words
pub Inserts-same : (old new : Numbers) (First Second : ℕ → Type 0) → Inserts old new First → ((x : ℕ) → First x → Second x) → ((x : ℕ) → Second x → First x) → Inserts old new Second
Inserts-same old new First Second it to from = record {
  limit = it.limit;
  behind = it.behind;
  sound = λ x there. elim (it.sound x there) [ inl before ↦ inl before | inr more ↦ inr (to x more) ];
  complete = λ x more. it.complete x (from x more);
}

module _ (xs : List ℕ) (By : ℕ → ℕ → Type 0) where
  pub marked-first : (old : Numbers) → Inserts old old (ByOne (take 0 xs) By)
  marked-first old = Inserts-none old (ByOne (take 0 xs) By) (λ y it. let low : it.1.0 < 0 = it.1.1 in absurd (omega arith))

  pub marked-next : (old mid new : Numbers) (i : ℕ) → i < length xs → Inserts old mid (ByOne (take i xs) By) → Inserts mid new (By (get_or xs i 0)) → Inserts old new (ByOne (take (i + 1) xs) By)
  marked-next old mid new i low one two =
      Inserts-then old mid new (ByOne (take i xs) By) (By (get_or xs i 0)) (ByOne (take (i + 1) xs) By) one two
      (λ y it. (it.0, taken-before xs i 0 low it.0 it.1, it.2))
      (λ y it. inr (get_or xs i 0, taken-last xs i 0 low, it))
      (λ y it.
      elim (taken-cases xs i 0 low it.0 it.1) [
        | inl before ↦ Inserts-kept mid new (By (get_or xs i 0)) two y (one.complete y (it.0, before, it.2))
        | inr last ↦ two.complete y (subst (λ x. By x y) last it.2)
      ])

  pub marked-last : (old new : Numbers) (i : ℕ) → length xs ≤ i → Inserts old new (ByOne (take i xs) By) → Inserts old new (ByOne xs By)
  marked-last old new i all it = subst (λ ys. Inserts old new (ByOne ys By)) (take-all xs i all) it
