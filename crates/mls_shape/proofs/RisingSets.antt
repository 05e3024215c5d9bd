-- Sets as rising lists are the same set only where they are the same list.
use Rattle.std.proofs.Common.{◌≡◌, ◌⊎◌, inl, inr, ℕ, suc, ◌<◌, List, [], ◌∷◌, refl, sym, arith, length, get_or, Contains}
use Rattle.mls_automaton.specs.Heads.{IsSameSet}
use Rattle.mls_automaton.specs.Sets.{Rises}
use Rattle.mls_automaton.proofs.Lists.{Contains-here, Contains-later, Contains-cases}
use Rattle.mls_automaton.proofs.RisingSets.{contains-place}

rest-rises : (x : ℕ) (xs : List ℕ) → Rises (x ∷ xs) → Rises xs
rest-rises x xs rises i j less low = rises (suc i) (suc j) (omega arith) (omega arith)

first-below : (x : ℕ) (xs : List ℕ) → Rises (x ∷ xs) → (y : ℕ) → Contains xs y → x < y
first-below x xs rises y there =
    let at = contains-place xs y there in
    let low : at.0 < length xs = at.1 in
    let less : x < get_or xs at.0 0 = rises 0 (suc at.0) (omega arith) (omega arith) in
    let same : get_or xs at.0 0 ≡ y = at.2 in
    omega arith

rest-has : (x y : ℕ) (xs ys : List ℕ) → Rises (x ∷ xs) → x ≡ y → ((z : ℕ) → Contains (x ∷ xs) z → Contains (y ∷ ys) z) → (z : ℕ) → Contains xs z → Contains ys z
rest-has x y xs ys rises same there z it = go (Contains-cases y ys z (there z (Contains-later x xs z it)))
  where
    go : (y ≡ z) ⊎ Contains ys z → Contains ys z
    go (inr later) = later
    go (inl is) = let less : x < z = first-below x xs rises z it in absurd (omega arith)

pub same_rising : (xs ys : List ℕ) → Rises xs → Rises ys → IsSameSet xs ys → xs ≡ ys
same_rising [] [] rises rises' same = refl
same_rising [] (y ∷ ys) rises rises' same = let none = same.1 y (Contains-here y ys) in let low : none.0 < 0 = none.1 in absurd (omega arith)
same_rising (x ∷ xs) [] rises rises' same = let none = same.0 x (Contains-here x xs) in let low : none.0 < 0 = none.1 in absurd (omega arith)
same_rising (x ∷ xs) (y ∷ ys) rises rises' same =
    let equal : x ≡ y = go (Contains-cases y ys x (same.0 x (Contains-here x xs))) (Contains-cases x xs y (same.1 y (Contains-here y ys))) in
    λ i. equal i ∷ same_rising xs ys (rest-rises x xs rises) (rest-rises y ys rises') (rest-has x y xs ys rises equal same.0, rest-has y x ys xs rises' (sym equal) same.1) i
  where
    go : (y ≡ x) ⊎ Contains ys x → (x ≡ y) ⊎ Contains xs y → x ≡ y
    go (inl is) other = sym is
    go (inr later) (inl is) = is
    go (inr later) (inr later') =
        let less : x < y = first-below x xs rises y later' in
        let less' : y < x = first-below y ys rises' x later in
        absurd (omega arith)
