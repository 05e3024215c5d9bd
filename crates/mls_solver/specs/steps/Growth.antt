-- How rooms grow.
use Rattle.std.specs.Prelude.{◌≡◌, ◌⊎◌, ℕ, List, ◌++◌, Contains}
use Rattle.mls_solver.specs.Rooms.{Room, Holds}

-- some element of the list gives the pair
abbrev pub BySome : {X : Type 0} → List X → (X → ℕ → ℕ → Type 0) → ℕ → ℕ → Type 0
BySome {X} xs By p n = (x : X) × Contains xs x × By x p n

-- The room came to hold just these pairs. What it held stands where it stood, and the new pairs stand behind it.
pub record Relates (old new : Room) (IsNew : ℕ → ℕ → Type 0) : Type 0 where
  pub positives : new.positives ≡ old.positives
  pub negatives : new.negatives ≡ old.negatives
  pub rows : new.rows ≡ old.rows
  pub columns : new.columns ≡ old.columns
  pub behind : (more : List (ℕ × ℕ)) × (new.pairs ≡ old.pairs ++ more)
  pub sound : (p n : ℕ) → Holds new p n → Holds old p n ⊎ IsNew p n
  pub complete : (p n : ℕ) → IsNew p n → Holds new p n
