-- Members of lists that begin with an element.
use Rattle.std.proofs.Common.{◌≡◌, ◌⊎◌, inl, inr, ℕ, zero, suc, ◌<◌, List, [], ◌∷◌, refl, arith, length, get_or, Contains}

module _ {X : Type 0} where
  pub Contains-here : (x : X) (rest : List X) → Contains (x ∷ rest) x
  Contains-here x rest = (0, omega arith, refl)

  pub Contains-later : (y : X) (rest : List X) (x : X) → Contains rest x → Contains (y ∷ rest) x
  Contains-later y rest x it = let low : it.0 < length rest = it.1 in (suc it.0, omega arith, it.2)

  pub Contains-cases : (y : X) (rest : List X) (x : X) → Contains (y ∷ rest) x → (y ≡ x) ⊎ Contains rest x
  Contains-cases y rest x it = go it.0 it.1 it.2
    where
      go : (k : ℕ) → k < length (y ∷ rest) → get_or (y ∷ rest) k x ≡ x → (y ≡ x) ⊎ Contains rest x
      go zero low same = inl same
      go (suc k) low same = inr (k, omega arith, same)

pub nothing_in : {X : Type 0} (x : X) → Contains [] x → ⊥
nothing_in x it = let low : it.0 < 0 = it.1 in absurd (omega arith)
