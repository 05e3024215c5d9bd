-- Membership in a list of numbers, as a test.
use Rattle.std.specs.Prelude.{ℕ, ◌==◌, Bool, List}
use Rattle.std.specs.List.{list_any}

-- whether the number is among these
abbrev pub is_among : List ℕ → ℕ → Bool
is_among xs x = list_any (λ y. x == y) xs
