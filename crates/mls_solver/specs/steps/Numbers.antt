-- Sets of numbers below a limit, in the order in which they came, and how they grow.
use Rattle.std.specs.Prelude.{◌≡◌, ◌⊎◌, ℕ, List, ◌++◌, Contains}

-- the members, each once, in the order in which they came; the limit is above all of them
pub record Numbers : Type 0 where
  pub limit : ℕ
  pub members : List ℕ

-- The set grew by just these numbers. What was there stays where it is, and the new ones come behind it.
pub record Inserts (old new : Numbers) (IsNew : ℕ → Type 0) : Type 0 where
  pub limit : new.limit ≡ old.limit
  pub behind : (more : List ℕ) × (new.members ≡ old.members ++ more)
  pub sound : (x : ℕ) → Contains new.members x → Contains old.members x ⊎ IsNew x
  pub complete : (x : ℕ) → IsNew x → Contains new.members x

-- some element of the list gives the number
abbrev pub ByOne : List ℕ → (ℕ → ℕ → Type 0) → ℕ → Type 0
ByOne xs By y = (x : ℕ) × Contains xs x × By x y
