-- What holds of the parts of a room.
use Rattle.std.specs.Prelude.{◌≡◌, ℕ, ◌+◌, ◌*◌, ◌/◌, ◌%◌, ◌<◌, ◌≤◌, ◌^◌, List, length, take, map, get_or, Contains}
use Rattle.mls_solver.specs.steps.Numbers.{Numbers}
use Rattle.mls_solver.specs.steps.Links.{LinkTable, AreLinked}
use Rattle.mls_solver.specs.Rooms.{Room}
use Rattle.mls_solver.specs.declared.room.Room.TheInside.{Inside}

-- the parts as lists
pub record Tables : Type 0 where
  pub positives : ℕ
  pub negatives : ℕ
  pub places : List ℕ
  pub rows : List ℕ
  pub columns : List ℕ
  pub row_count : ℕ
  pub column_count : ℕ
  pub cells : Numbers
  pub by_row : LinkTable
  pub by_column : LinkTable

-- the pair of a cell: cells are numbered row by row
abbrev pub pair_of : Tables → ℕ → ℕ × ℕ
pair_of t x = (get_or t.rows (x / t.negatives) 0, get_or t.columns (x % t.negatives) 0)

-- the cell lies in a row and a column that are used
pub record IsCell (t : Tables) (x : ℕ) : Type 0 where
  pub row : ℕ
  pub column : ℕ
  pub is : x ≡ row * t.negatives + column
  pub row_used : row < t.row_count
  pub column_used : column < t.column_count

-- the states of these lines have their numbers as places
abbrev pub ArePlaced : (places lines : List ℕ) (count : ℕ) → Type 0
ArePlaced places lines count = (k : ℕ) → k < count
    → (get_or lines k 0 < length places) × (get_or places (get_or lines k 0) 0 ≡ k)

-- the places of the cells are linked by their rows and by their columns, with space for all
pub record AreLinkedCells (positives negatives : ℕ) (cells : Numbers) (by_row by_column : LinkTable) : Type 0 where
  pub row_keys : length by_row.last ≡ positives
  pub column_keys : length by_column.last ≡ negatives
  pub row_space : length by_row.before ≡ cells.limit
  pub column_space : length by_column.before ≡ cells.limit
  pub rows : AreLinked (map (λ x. x / negatives) cells.members) by_row
  pub columns : AreLinked (map (λ x. x % negatives) cells.members) by_column

pub record AreTables (t : Tables) : Type 0 where
  pub few_rows : t.row_count ≤ t.positives
  pub few_columns : t.column_count ≤ t.negatives
  pub all_rows : length t.rows ≡ t.positives
  pub all_columns : length t.columns ≡ t.negatives
  pub all_places : length t.places ≡ t.positives + t.negatives
  pub limit : t.cells.limit ≡ t.positives * t.negatives
  pub small : t.cells.limit ≤ 2 ^ 32
  pub placed_rows : ArePlaced t.places t.rows t.row_count
  pub placed_columns : ArePlaced t.places t.columns t.column_count
  pub used : (x : ℕ) → Contains t.cells.members x → IsCell t x
  pub linked : AreLinkedCells t.positives t.negatives t.cells t.by_row t.by_column

-- what contracts see of them
abbrev pub room_of : Tables → Room
room_of t = record {
  positives = t.positives;
  negatives = t.negatives;
  rows = take t.row_count t.rows;
  columns = take t.column_count t.columns;
  pairs = map (pair_of t) t.cells.members;
}

abbrev pub tables_of : Inside → Tables
tables_of a = record {
  positives = a.positives;
  negatives = a.negatives;
  places = a.places.items;
  rows = a.rows.items;
  columns = a.columns.items;
  row_count = a.row_count;
  column_count = a.column_count;
  cells = a.cells;
  by_row = a.by_row;
  by_column = a.by_column;
}

abbrev pub IsRoom : Inside → Type 0
IsRoom a = AreTables (tables_of a)

abbrev pub room_view : Inside → Room
room_view a = room_of (tables_of a)
