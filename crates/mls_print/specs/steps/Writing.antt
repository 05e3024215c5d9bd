-- Writing the pieces: names are given as their keys appear.
use Rattle.std.specs.Prelude.{◌≡◌, ℕ, ◌+◌, ◌<◌, ◌≤◌, Bool, List, [], ◌∷◌, ◌++◌, length, get_or, slice_set, Option, Some}
use Rattle.std.specs.Prelude.{None, if◌then◌else◌}
use Rattle.std.specs.List.{list_any}
use Rattle.mls_print.specs.declared.piece.Piece.{Piece as LaidPiece}
use Rattle.mls_print.specs.declared.piece.Piece.TheVariants as laid
use Rattle.mls_print.specs.declared.write.Writer.{Writer}
use Rattle.mls_print.specs.Keys.{Key, variable, recursion, same_key, place_of, name_at}
use Rattle.mls_print.specs.Pieces.{Piece, bytes, name_of, begins, opens, closes, piece_written, piece_keys}

-- the piece of the text
abbrev pub piece_of : LaidPiece → Piece
piece_of (laid.Text text) = bytes text.now
piece_of (laid.Variable n) = name_of (variable n)
piece_of (laid.Again j) = name_of (recursion j)
piece_of (laid.Begins j) = begins j
piece_of (laid.Opens j) = opens j
piece_of (laid.Closes j) = closes j

-- the state whose variable it names is below this number
abbrev pub HasStateBelow : ℕ → LaidPiece → Type 0
HasStateBelow n (laid.Variable s) = s < n
HasStateBelow n _ = Unit {0}

-- the set that it names is below this number
abbrev pub HasSetBelow : ℕ → LaidPiece → Type 0
HasSetBelow n (laid.Text text) = Unit {0}
HasSetBelow n (laid.Variable s) = Unit {0}
HasSetBelow n (laid.Again j) = j < n
HasSetBelow n (laid.Begins j) = j < n
HasSetBelow n (laid.Opens j) = j < n
HasSetBelow n (laid.Closes j) = j < n

-- a key has appeared
abbrev pub is_known : List Key → Key → Bool
is_known seen key = list_any (λ other. same_key other key) seen

-- the keys that have appeared, each once, after one more and after some more
abbrev pub added : List Key → Key → List Key
added seen key = if is_known seen key then seen else (seen ++ key ∷ [])

abbrev pub all_added : List Key → List Key → List Key
all_added seen [] = seen
all_added seen (key ∷ rest) = all_added (added seen key) rest

-- the number of a key among those that have appeared
abbrev pub number_in : List Key → Key → Option ℕ
number_in seen key = if is_known seen key then Some (place_of seen key) else None

-- the name of a key that appears behind these
abbrev pub name_behind : List Key → Key → List ℕ
name_behind seen key = name_at (place_of (added seen key) key)

-- A key that has a number keeps it, and any other gets the next one.
abbrev pub GetsNumber : Option ℕ → (index named : ℕ) → (old new : List (Option ℕ)) → (named_then given : ℕ) → Type 0
GetsNumber (Some number) index named old new named_then given = (given ≡ number) × ((new ≡ old) × (named_then ≡ named))
GetsNumber None index named old new named_then given =
    (given ≡ named) × ((new ≡ slice_set old index (Some named)) × (named_then ≡ named + 1))

-- the numbers are those of these keys
pub record HasNumbers (seen : List Key) (variables recursions : List (Option ℕ)) (named : ℕ) : Type 0 where
  pub count : named ≡ length seen
  pub variable_number : (n : ℕ) → n < length variables → get_or variables n None ≡ number_in seen (variable n)
  pub recursion_number : (j : ℕ) → j < length recursions → get_or recursions j None ≡ number_in seen (recursion j)

abbrev pub Names : List Key → Writer → Type 0
Names seen w = HasNumbers seen w.variables.items w.recursions.items w.named

-- the writer has as many places as before, and not more names than bytes
pub record Keeps (old new : Writer) : Type 0 where
  pub variables : length new.variables.items ≡ length old.variables.items
  pub recursions : length new.recursions.items ≡ length old.recursions.items
  pub fits : new.named ≤ length new.text.items

-- the name of a key is written, with what stands around it
pub record NamesKey (told : List ℕ → List ℕ) (key : Key) (old new : Writer) : Type 0 where
  pub keeps : Keeps old new
  pub names : (seen : List Key) → Names seen old → Names (added seen key) new
  pub text : (seen : List Key) → Names seen old → new.text.items ≡ old.text.items ++ told (name_behind seen key)

-- a piece is written, where these sets have a `rec`
pub record Writes (has_rec : ℕ → Bool) (piece : Piece) (old new : Writer) : Type 0 where
  pub keeps : Keeps old new
  pub names : (seen : List Key) → Names seen old → Names (all_added seen (piece_keys has_rec piece [])) new
  pub text : (seen : List Key) → Names seen old
      → new.text.items ≡ old.text.items ++ piece_written has_rec (name_behind seen) piece []
