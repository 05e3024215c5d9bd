-- The latest pair of a state, by the links of a room.
use Rattle.std.proofs.Common.{◌≡◌, ℕ, ◌/◌, ◌%◌, ◌<◌, ◌≤◌, List, map, refl, sym, ap, ◌∙◌, subst, arith, length, take, get_or, Contains}
use Rattle.std.proofs.lemmas.Nat.{div-mul-add, mod-mul-add}
use Rattle.std.proofs.lemmas.List.{get_or-map, get_or-take, get_or_default, length-map, length-take-le}
use Rattle.mls_solver.specs.Rooms.{Room}
use Rattle.mls_solver.specs.steps.Links.{IsLatest, AreLinked, first, second, keys_of}
use Rattle.mls_solver.specs.steps.RoomParts.{Tables, pair_of, IsCell, AreTables, room_of}
use Rattle.mls_solver.proofs.RoomSteps.{IsLine, line_of, rows_fit, columns_fit}
use Rattle.mls_solver.proofs.RoomCalls.{held_row, held_column}
use Rattle.mls_solver.proofs.Walks.{latest-same}

module _ (t : Tables) (are : AreTables t) where
  abbrev W : ℕ
  W = t.negatives

  abbrev member : ℕ → ℕ
  member k = get_or t.cells.members k 0

  cell_at : (k : ℕ) → k < length t.cells.members → IsCell t (member k)
  cell_at k low = are.used (member k) (k, low, get_or_default t.cells.members k (member k) 0 low)

  row_at : (k : ℕ) → k < length t.cells.members → get_or (map (λ x. x / W) t.cells.members) k 0 ≡ member k / W
  row_at k low = get_or-map (λ x. x / W) t.cells.members k 0 0 low

  column_at : (k : ℕ) → k < length t.cells.members → get_or (map (λ x. x % W) t.cells.members) k 0 ≡ member k % W
  column_at k low = get_or-map (λ x. x % W) t.cells.members k 0 0 low

  pair_at : (k : ℕ) → k < length t.cells.members → get_or (room_of t).pairs k (0, 0) ≡ pair_of t (member k)
  pair_at k low = get_or-map (pair_of t) t.cells.members k 0 (0, 0) low

  first_at : (k : ℕ) → k < length t.cells.members → get_or (keys_of first (room_of t)) k 0 ≡ get_or t.rows (member k / W) 0
  first_at k low =
      get_or-map first (room_of t).pairs k (0, 0) 0 (let all : length (room_of t).pairs ≡ length t.cells.members = length-map t.cells.members (pair_of t) in omega arith)
      ∙ ap first (pair_at k low)

  second_at : (k : ℕ) → k < length t.cells.members → get_or (keys_of second (room_of t)) k 0 ≡ get_or t.columns (member k % W) 0
  second_at k low =
      get_or-map second (room_of t).pairs k (0, 0) 0 (let all : length (room_of t).pairs ≡ length t.cells.members = length-map t.cells.members (pair_of t) in omega arith)
      ∙ ap second (pair_at k low)

  row_of : (k : ℕ) (low : k < length t.cells.members) → member k / W ≡ (cell_at k low).row
  row_of k low =
      let c = cell_at k low in
      let thin : t.column_count ≤ W = are.few_columns in
      let narrow : c.column < t.column_count = c.column_used in
      ap (λ x. x / W) c.is ∙ div-mul-add c.row W c.column (omega arith)

  column_of : (k : ℕ) (low : k < length t.cells.members) → member k % W ≡ (cell_at k low).column
  column_of k low =
      let c = cell_at k low in
      let thin : t.column_count ≤ W = are.few_columns in
      let narrow : c.column < t.column_count = c.column_used in
      ap (λ x. x % W) c.is ∙ mod-mul-add c.row W c.column (omega arith)

  -- the latest place of a row is that of its state
  module _ (p row : ℕ) (line : IsLine t.places t.rows t.row_count p) (is : row ≡ get_or t.places p 0) where
    row_state : get_or t.rows row 0 ≡ p
    row_state = ap (λ r. get_or t.rows r 0) is ∙ line.is

    pub latest_first : (n at : ℕ) → n ≤ length t.cells.members → IsLatest (map (λ x. x / W) t.cells.members) n row at → IsLatest (keys_of first (room_of t)) n p at
    latest_first n at all it =
        latest-same (map (λ x. x / W) t.cells.members) (keys_of first (room_of t)) n row p at it
        (λ k low e.
        let there : k < length t.cells.members = omega arith in
        first_at k there ∙ (ap (λ r. get_or t.rows r 0) (sym (row_at k there) ∙ e) ∙ row_state))
        (λ k low e.
        let there : k < length t.cells.members = omega arith in
        let c = cell_at k there in
        let state : get_or t.rows c.row 0 ≡ p = ap (λ r. get_or t.rows r 0) (sym (row_of k there)) ∙ (sym (first_at k there) ∙ e) in
        row_at k there ∙ (row_of k there ∙ (sym (are.placed_rows c.row c.row_used).1 ∙ (ap (λ s. get_or t.places s 0) state ∙ sym is))))

  module _ (s column : ℕ) (line : IsLine t.places t.columns t.column_count s) (is : column ≡ get_or t.places s 0) where
    column_state : get_or t.columns column 0 ≡ s
    column_state = ap (λ r. get_or t.columns r 0) is ∙ line.is

    pub latest_second : (n at : ℕ) → n ≤ length t.cells.members → IsLatest (map (λ x. x % W) t.cells.members) n column at → IsLatest (keys_of second (room_of t)) n s at
    latest_second n at all it =
        latest-same (map (λ x. x % W) t.cells.members) (keys_of second (room_of t)) n column s at it
        (λ k low e.
        let there : k < length t.cells.members = omega arith in
        second_at k there ∙ (ap (λ r. get_or t.columns r 0) (sym (column_at k there) ∙ e) ∙ column_state))
        (λ k low e.
        let there : k < length t.cells.members = omega arith in
        let c = cell_at k there in
        let state : get_or t.columns c.column 0 ≡ s = ap (λ r. get_or t.columns r 0) (sym (column_of k there)) ∙ (sym (second_at k there) ∙ e) in
        column_at k there ∙ (column_of k there ∙ (sym (are.placed_columns c.column c.column_used).1 ∙ (ap (λ q. get_or t.places q 0) state ∙ sym is))))

-- said of a room
module _ (t : Tables) (are : AreTables t) (room : Room) (is : room_of t ≡ room) where
  all_pairs : length (room_of t).pairs ≡ length t.cells.members
  all_pairs = length-map t.cells.members (pair_of t)

  rows_linked : length (map (λ x. x / t.negatives) t.cells.members) ≡ length t.cells.members
  rows_linked = length-map t.cells.members (λ x. x / t.negatives)

  columns_linked : length (map (λ x. x % t.negatives) t.cells.members) ≡ length t.cells.members
  columns_linked = length-map t.cells.members (λ x. x % t.negatives)

  row_found : (row : ℕ) → row < length room.rows → (p : ℕ) → get_or room.rows row 0 ≡ p → IsLine t.places t.rows t.row_count p × (row ≡ get_or t.places p 0)
  row_found row low p state =
      let rows : length (take t.row_count t.rows) ≡ t.row_count = length-take-le t.row_count t.rows (rows_fit t are) in
      let there : row < length (take t.row_count t.rows) = subst (λ (r : Room). row < length r.rows) (sym is) low in
      let used : row < t.row_count = omega arith in
      let at : get_or t.rows row 0 ≡ p = sym (get_or-take t.row_count t.rows row 0 used) ∙ (ap (λ (r : Room). get_or r.rows row 0) is ∙ state) in (
        line_of t.places t.rows t.row_count row p are.placed_rows used at,
        sym (subst (λ q. get_or t.places q 0 ≡ row) at (are.placed_rows row used).1),
      )

  column_found : (column : ℕ) → column < length room.columns → (n : ℕ) → get_or room.columns column 0 ≡ n → IsLine t.places t.columns t.column_count n × (column ≡ get_or t.places n 0)
  column_found column low n state =
      let columns : length (take t.column_count t.columns) ≡ t.column_count = length-take-le t.column_count t.columns (columns_fit t are) in
      let there : column < length (take t.column_count t.columns) = subst (λ (r : Room). column < length r.columns) (sym is) low in
      let used : column < t.column_count = omega arith in
      let at : get_or t.columns column 0 ≡ n = sym (get_or-take t.column_count t.columns column 0 used) ∙ (ap (λ (r : Room). get_or r.columns column 0) is ∙ state) in (
        line_of t.places t.columns t.column_count column n are.placed_columns used at,
        sym (subst (λ q. get_or t.places q 0 ≡ column) at (are.placed_columns column used).1),
      )

  pair_of_first : (j : ℕ) → j < length room.pairs → (p : ℕ) → (get_or room.pairs j (0, 0)).0 ≡ p → Contains room.pairs (p, (get_or room.pairs j (0, 0)).1)
  pair_of_first j low p e =
      let pair : ℕ × ℕ = get_or room.pairs j (0, 0) in
      let there : Contains room.pairs pair = (j, low, get_or_default room.pairs j pair (0, 0) low) in
      subst (λ q. Contains room.pairs (q, pair.1)) e there

  pair_of_second : (j : ℕ) → j < length room.pairs → (n : ℕ) → (get_or room.pairs j (0, 0)).1 ≡ n → Contains room.pairs ((get_or room.pairs j (0, 0)).0, n)
  pair_of_second j low n e =
      let pair : ℕ × ℕ = get_or room.pairs j (0, 0) in
      let there : Contains room.pairs pair = (j, low, get_or_default room.pairs j pair (0, 0) low) in
      subst (λ q. Contains room.pairs (pair.0, q)) e there

  low_place : (i : ℕ) → i < length room.pairs → i < length t.cells.members
  low_place i low =
      let below : i < length (room_of t).pairs = subst (λ (r : Room). i < length r.pairs) (sym is) low in
      let all : length (room_of t).pairs ≡ length t.cells.members = all_pairs in
      omega arith

  pub place_in_rows : (i : ℕ) → i < length room.pairs → i < t.by_row.len
  place_in_rows i low =
      let below : i < length t.cells.members = low_place i low in
      let size : t.by_row.len ≡ length (map (λ x. x / t.negatives) t.cells.members) = are.linked.rows.size in
      let all : length (map (λ x. x / t.negatives) t.cells.members) ≡ length t.cells.members = rows_linked in
      omega arith

  pub place_in_columns : (i : ℕ) → i < length room.pairs → i < t.by_column.len
  place_in_columns i low =
      let below : i < length t.cells.members = low_place i low in
      let size : t.by_column.len ≡ length (map (λ x. x % t.negatives) t.cells.members) = are.linked.columns.size in
      let all : length (map (λ x. x % t.negatives) t.cells.members) ≡ length t.cells.members = columns_linked in
      omega arith

  pub earlier_positive : (i at : ℕ) → i < length room.pairs → ((keys : List ℕ) → AreLinked keys t.by_row → i < length keys → IsLatest keys i (get_or keys i 0) at) → IsLatest (keys_of first room) i (get_or (keys_of first room) i 0) at
  earlier_positive i at low it =
      let there : i < length t.cells.members = low_place i low in
      let all : length (map (λ x. x / t.negatives) t.cells.members) ≡ length t.cells.members = rows_linked in
      let c = cell_at t are i there in
      let p : ℕ = get_or t.rows c.row 0 in
      let line : IsLine t.places t.rows t.row_count p = line_of t.places t.rows t.row_count c.row p are.placed_rows c.row_used refl in
      let row : get_or (map (λ x. x / t.negatives) t.cells.members) i 0 ≡ c.row = row_at t are i there ∙ row_of t are i there in
      let state : get_or (keys_of first (room_of t)) i 0 ≡ p = first_at t are i there ∙ ap (λ r. get_or t.rows r 0) (row_of t are i there) in
      subst (λ (r : Room). IsLatest (keys_of first r) i (get_or (keys_of first r) i 0) at) is
      (subst (λ q. IsLatest (keys_of first (room_of t)) i q at) (sym state)
      (latest_first t are p c.row line (sym (are.placed_rows c.row c.row_used).1) i at (omega arith)
      (subst (λ r. IsLatest (map (λ x. x / t.negatives) t.cells.members) i r at) row
      (it (map (λ x. x / t.negatives) t.cells.members) are.linked.rows (omega arith)))))

  pub earlier_negative : (i at : ℕ) → i < length room.pairs → ((keys : List ℕ) → AreLinked keys t.by_column → i < length keys → IsLatest keys i (get_or keys i 0) at) → IsLatest (keys_of second room) i (get_or (keys_of second room) i 0) at
  earlier_negative i at low it =
      let there : i < length t.cells.members = low_place i low in
      let all : length (map (λ x. x % t.negatives) t.cells.members) ≡ length t.cells.members = columns_linked in
      let c = cell_at t are i there in
      let n : ℕ = get_or t.columns c.column 0 in
      let line : IsLine t.places t.columns t.column_count n = line_of t.places t.columns t.column_count c.column n are.placed_columns c.column_used refl in
      let column : get_or (map (λ x. x % t.negatives) t.cells.members) i 0 ≡ c.column = column_at t are i there ∙ column_of t are i there in
      let state : get_or (keys_of second (room_of t)) i 0 ≡ n = second_at t are i there ∙ ap (λ r. get_or t.columns r 0) (column_of t are i there) in
      subst (λ (r : Room). IsLatest (keys_of second r) i (get_or (keys_of second r) i 0) at) is
      (subst (λ q. IsLatest (keys_of second (room_of t)) i q at) (sym state)
      (latest_second t are n c.column line (sym (are.placed_columns c.column c.column_used).1) i at (omega arith)
      (subst (λ r. IsLatest (map (λ x. x % t.negatives) t.cells.members) i r at) column
      (it (map (λ x. x % t.negatives) t.cells.members) are.linked.columns (omega arith)))))

  -- the same of any state, by the row or the column that was found for it
  pub latest_at_row : (p row at : ℕ) → row < length room.rows → get_or room.rows row 0 ≡ p → ((keys : List ℕ) → AreLinked keys t.by_row → IsLatest keys (length keys) row at) → IsLatest (keys_of first room) (length room.pairs) p at
  latest_at_row p row at low state it =
      let line = row_found row low p state in
      subst (λ (r : Room). IsLatest (keys_of first r) (length r.pairs) p at) is
      (subst (λ n. IsLatest (keys_of first (room_of t)) n p at) (sym all_pairs)
      (latest_first t are p row line.0 line.1 (length t.cells.members) at (omega arith)
      (subst (λ n. IsLatest (map (λ x. x / t.negatives) t.cells.members) n row at) rows_linked
      (it (map (λ x. x / t.negatives) t.cells.members) are.linked.rows))))

  pub latest_at_column : (n column at : ℕ) → column < length room.columns → get_or room.columns column 0 ≡ n → ((keys : List ℕ) → AreLinked keys t.by_column → IsLatest keys (length keys) column at) → IsLatest (keys_of second room) (length room.pairs) n at
  latest_at_column n column at low state it =
      let line = column_found column low n state in
      subst (λ (r : Room). IsLatest (keys_of second r) (length r.pairs) n at) is
      (subst (λ k. IsLatest (keys_of second (room_of t)) k n at) (sym all_pairs)
      (latest_second t are n column line.0 line.1 (length t.cells.members) at (omega arith)
      (subst (λ k. IsLatest (map (λ x. x % t.negatives) t.cells.members) k column at) columns_linked
      (it (map (λ x. x % t.negatives) t.cells.members) are.linked.columns))))

  -- a state without a row or a column has no pair
  pub no_latest_row : (p : ℕ) → (Contains room.rows p → ⊥) → IsLatest (keys_of first room) (length room.pairs) p 0
  no_latest_row p absent = record {
    low = omega arith;
    here = λ k e. absurd (omega arith);
    none = λ j least low e. absurd (absent (held_row t are room is p (get_or room.pairs j (0, 0)).1 (pair_of_first j low p (sym (get_or-map first room.pairs j (0, 0) 0 low) ∙ e))));
  }

  pub no_latest_column : (n : ℕ) → (Contains room.columns n → ⊥) → IsLatest (keys_of second room) (length room.pairs) n 0
  no_latest_column n absent = record {
    low = omega arith;
    here = λ k e. absurd (omega arith);
    none = λ j least low e. absurd (absent (held_column t are room is (get_or room.pairs j (0, 0)).0 n (pair_of_second j low n (sym (get_or-map second room.pairs j (0, 0) 0 low) ∙ e))));
  }

  pub found_row_link : (row : ℕ) → row < length room.rows → row < length t.by_row.last
  found_row_link row low =
      let rows : length (take t.row_count t.rows) ≡ t.row_count = length-take-le t.row_count t.rows (rows_fit t are) in
      let there : row < length (take t.row_count t.rows) = subst (λ (r : Room). row < length r.rows) (sym is) low in
      let few : t.row_count ≤ t.positives = are.few_rows in
      let all : length t.by_row.last ≡ t.positives = are.linked.row_keys in
      omega arith

  pub found_column_link : (column : ℕ) → column < length room.columns → column < length t.by_column.last
  found_column_link column low =
      let columns : length (take t.column_count t.columns) ≡ t.column_count = length-take-le t.column_count t.columns (columns_fit t are) in
      let there : column < length (take t.column_count t.columns) = subst (λ (r : Room). column < length r.columns) (sym is) low in
      let few : t.column_count ≤ t.negatives = are.few_columns in
      let all : length t.by_column.last ≡ t.negatives = are.linked.column_keys in
      omega arith
