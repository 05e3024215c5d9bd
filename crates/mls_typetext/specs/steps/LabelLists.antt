-- Lists of labels that were given.
use Rattle.std.specs.Prelude.{◌≡◌, ℕ, Bool, ◌||◌, List, bytes_eq}
use Rattle.std.specs.List.{list_any}

-- whether a label is one of these
abbrev pub is_among : List (List ℕ) → List ℕ → Bool
is_among labels x = list_any (bytes_eq x) labels

-- a label was added, or is there already
abbrev pub HasAdded : List ℕ → (old new : List (List ℕ)) → Type 0
HasAdded label old new = (x : List ℕ) → is_among new x ≡ (bytes_eq x label || is_among old x)
