-- The nodes that a search came to.
use Rattle.std.specs.Prelude.{◌≡◌, ℕ, ◌<◌, List, length, get_or}

-- how many nodes there are, and those that were met
pub record Visited : Type 0 where
  pub limit : ℕ
  pub members : List ℕ

-- each node that was met has its place noted
abbrev pub ArePlaced : List ℕ → List ℕ → Type 0
ArePlaced met places =
    (d : ℕ) → d < length met → (get_or met d 0 < length places) × (get_or places (get_or met d 0) 0 ≡ d)
