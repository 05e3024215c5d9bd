-- Pairs by each of their states.
use Rattle.std.specs.Prelude.{ℕ, [], List, get_or, Contains}

-- the set of this number has the member
abbrev pub HasMember : List (List ℕ) → ℕ → ℕ → Type 0
HasMember sets k m = Contains (get_or sets k []) m
