-- Lists of places by their keys, linked from the last place of each key back to its first.
use Rattle.mls_solver.specs.Rooms.{Room}
use Rattle.std.specs.Prelude.{◌≡◌, ℕ, ◌+◌, ◌<◌, ◌≤◌, List, length, map, get_or}

-- `last` is by keys, and `before` by places, of which so many are used
pub record LinkTable : Type 0 where
  pub last : List ℕ
  pub before : List ℕ
  pub len : ℕ

-- At is 0 where no place below n has the key r, and otherwise the number behind the last such place.
pub record IsLatest (keys : List ℕ) (n r at : ℕ) : Type 0 where
  pub low : at ≤ n
  pub here : (k : ℕ) → at ≡ k + 1 → get_or keys k 0 ≡ r
  pub none : (j : ℕ) → at ≤ j → j < n → get_or keys j 0 ≡ r → ⊥

-- The places have these keys: for each key its latest place, and for each place the latest one before with its key.
pub record AreLinked (keys : List ℕ) (t : LinkTable) : Type 0 where
  pub size : t.len ≡ length keys
  pub latest : (r : ℕ) → r < length t.last → IsLatest keys (length keys) r (get_or t.last r 0)
  pub earlier : (k : ℕ) → k < length keys → IsLatest keys k (get_or keys k 0) (get_or t.before k 0)

-- there is as much space in the second
pub record IsSameSpace (old new : LinkTable) : Type 0 where
  pub last : length new.last ≡ length old.last
  pub before : length new.before ≡ length old.before

-- the states of the pairs of a room, in the order in which they were found
abbrev pub first : ℕ × ℕ → ℕ
first pair = pair.0

abbrev pub second : ℕ × ℕ → ℕ
second pair = pair.1

abbrev pub keys_of : (ℕ × ℕ → ℕ) → Room → List ℕ
keys_of key room = map key room.pairs
