-- Whether a number is in a list.
use Rattle.std.proofs.Common.{◌≡◌, ◌≢◌, ◌==◌, ◌⊎◌, inl, inr, ℕ, ◌<◌, true, false, List, [], ◌∷◌, Contains, subst, arith}
use Rattle.std.proofs.lemmas.Bool.Decides.{eqb_tells}
use Rattle.mls_automaton.proofs.Lists.{Contains-here, Contains-later, Contains-cases}

pub decide_contains : (x : ℕ) (xs : List ℕ) → Contains xs x ⊎ (Contains xs x → ⊥)
decide_contains x [] = inr (λ it. let low : it.0 < 0 = it.1 in absurd (omega arith))
decide_contains x (y ∷ ys) = go (eqb_tells y x) (decide_contains x ys)
  where
    go : (((y == x) ≡ true) × (y ≡ x)) ⊎ (((y == x) ≡ false) × (y ≢ x)) → Contains ys x ⊎ (Contains ys x → ⊥) → Contains (y ∷ ys) x ⊎ (Contains (y ∷ ys) x → ⊥)
    go (inl same) rest = inl (subst (Contains (y ∷ ys)) same.1 (Contains-here y ys))
    go (inr unlike) (inl there) = inl (Contains-later y ys x there)
    go (inr unlike) (inr none) = inr (λ it. elim (Contains-cases y ys x it) [ inl same ↦ unlike.1 same | inr later ↦ none later ])
