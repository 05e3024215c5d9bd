-- The printing numbers of states.
use Rattle.std.specs.Prelude.{◌≡◌, ℕ, ◌<◌, List, length, get_or, All, Option, Some, None}

-- Of so many states these are visited, in this order, and each of them has its place as its number.
pub record IsNumbered (n : ℕ) (order : List ℕ) (numbers : List (Option ℕ)) : Type 0 where
  pub size : length numbers ≡ n
  pub low : All (λ s. s < n) order
  pub numbered : (k : ℕ) → k < length order → get_or numbers (get_or order k 0) None ≡ Some k
  pub found : (s k : ℕ) → s < n → get_or numbers s None ≡ Some k → (k < length order) × (get_or order k 0 ≡ s)
