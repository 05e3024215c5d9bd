-- Marks of the numbers that a walk has found.
use Rattle.std.specs.Prelude.{◌≡◌, ◌⊎◌, ◌↔◌, ℕ, Bool, true, false, List, length, get_or, Contains}

-- the number was found
pub record WasFound (found : List ℕ) (s : ℕ) : Type 0 where
  pub is : Contains found s

-- just the numbers that were found have a mark
pub record AreMarks (found : List ℕ) (marks : List Bool) : Type 0 where
  pub marked : (j : ℕ) → Contains found j → get_or marks j false ≡ true
  pub only : (j : ℕ) → get_or marks j false ≡ true → Contains found j

-- the number is found, and the answer tells whether it was not before
pub record FindsNumber (old : List ℕ) (s : ℕ) (new : List ℕ) (is_new : Bool) : Type 0 where
  pub numbers : (j : ℕ) → Contains new j ↔ (j ≡ s) ⊎ Contains old j
  pub absent : is_new ≡ true → Contains old s → ⊥
  pub there : is_new ≡ false → Contains old s
  pub same : is_new ≡ false → new ≡ old

-- just the marks of these numbers are gone
pub record IsUnmarked (old : List Bool) (numbers : List ℕ) (new : List Bool) : Type 0 where
  pub same_length : length new ≡ length old
  pub gone : (j : ℕ) → Contains numbers j → get_or new j false ≡ false
  pub others : (j : ℕ) → (Contains numbers j → ⊥) → get_or new j false ≡ get_or old j false
