-- Sets of states, as the lists of their numbers.
use Rattle.std.specs.Prelude.{ℕ, ◌<◌, List, length, get_or}

-- each number is below those behind it
abbrev pub Rises : List ℕ → Type 0
Rises set = (i j : ℕ) → i < j → j < length set → get_or set i 0 < get_or set j 0
