-- Two rising lists that are merged.
use Rattle.std.specs.Prelude.{◌≡◌, ◌↔◌, ◌⊎◌, ℕ, ◌+◌, ◌<◌, ◌≤◌, List, length, take, get_or, All, Contains}

-- the number at this place, if there is one, is no lower
abbrev pub IsLow : List ℕ → ℕ → ℕ → Type 0
IsLow list i s = i < length list → s ≤ get_or list i 0

-- the number stands at this place
abbrev pub StandsAt : List ℕ → ℕ → ℕ → Type 0
StandsAt list i s = (i < length list) × (get_or list i 0 ≡ s)

-- the next place is behind the number where it stands here
abbrev pub GoesPast : List ℕ → ℕ → ℕ → ℕ → Type 0
GoesPast list i s next = ((next ≡ i + 1) × StandsAt list i s) ⊎ ((next ≡ i) × (i < length list → s < get_or list i 0))

-- the numbers before these places were merged, and all of them are lower than those at these places
pub record AreMerged (first second : List ℕ) (i j : ℕ) (both : List ℕ) : Type 0 where
  pub first_there : i ≤ length first
  pub second_there : j ≤ length second
  pub members : (s : ℕ) → Contains both s ↔ Contains (take i first) s ⊎ Contains (take j second) s
  pub before_first : i < length first → All (λ s. s < get_or first i 0) both
  pub before_second : j < length second → All (λ s. s < get_or second j 0) both
