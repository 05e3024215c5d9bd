-- Sets of numbers as rising lists.
use Rattle.std.specs.Prelude.{ℕ, ◌<◌, List, [], ◌∷◌, All}

-- each number is below those behind it
abbrev pub AreRisingNumbers : List ℕ → Type 0
AreRisingNumbers [] = Unit {0}
AreRisingNumbers (x ∷ rest) = All (λ y. x < y) rest × AreRisingNumbers rest
