-- Counts that never fall.
use Rattle.std.specs.Prelude.{ℕ, ◌<◌, ◌≤◌, ◌⊎◌, Bool, false, ◌==◌, IsTrue}

-- a count, and whether a counter behind it stands at its last value
pub record Count : Type 0 where
  pub value : ℕ
  pub is_worn : Bool

-- it is greater than before, or stands at the last value of a counter
abbrev pub Rose : Count → Count → Type 0
Rose old new = (old.value < new.value) ⊎ IsTrue new.is_worn

-- a count never falls, and stays worn
pub record Grows (old new : Count) : Type 0 where
  pub value : old.value ≤ new.value
  pub worn : IsTrue old.is_worn → IsTrue new.is_worn

-- the count of a counter at this number, which is worn at its last value
abbrev pub count_of : ℕ → Count
count_of n = record { value = n; is_worn = n == 18446744073709551615 }

-- a count that stands at 0 and is not worn
abbrev pub no_count : Count
no_count = record { value = 0; is_worn = false }
