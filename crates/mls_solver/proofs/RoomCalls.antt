-- What the calls of a room do, by its parts.
use Rattle.std.proofs.Common.{◌≡◌, ℕ, ◌+◌, ◌*◌, ◌/◌, ◌%◌, ◌<◌, ◌≤◌, List, [], ◌∷◌, ◌++◌, map, refl, sym, ap, ◌∙◌, subst, arith, length, take, get_or, Contains}
use Rattle.std.specs.Prelude.{◌↔◌, All}
use Rattle.std.proofs.Math.ListN.{set}
use Rattle.std.proofs.lemmas.Nat.{div-mul-add, mod-mul-add}
use Rattle.std.proofs.lemmas.List.{get_or-take, get_or_default, get_or-map, length-append, length-set, length-take-le, length-map, map-append}
use Rattle.mls_automaton.proofs.Lists.{Contains-map}
use Rattle.mls_solver.specs.Rooms.{Room, Holds}
use Rattle.mls_solver.specs.steps.Links.{LinkTable, AreLinked, IsSameSpace}
use Rattle.mls_solver.specs.steps.Numbers.{Numbers, Inserts}
use Rattle.mls_solver.specs.steps.RoomParts.{Tables, pair_of, IsCell, AreLinkedCells, AreTables, room_of}
use Rattle.mls_solver.proofs.CellSteps.{cells-inserts}
use Rattle.mls_solver.proofs.Relating.{Relates-none}
use Rattle.mls_solver.specs.steps.Growth.{Relates}
use Rattle.mls_solver.proofs.RoomSteps.{IsLine, line_of, line_row, line_column, rows_fit, columns_fit, placed-more, placed-other, no_members, row_in, column_in, cell_fits, pair-line, held_lines, held-cell, are_grown, grown_relates}

module _ (t : Tables) (are : AreTables t) (room : Room) (is : room_of t ≡ room) where
  abbrev W : ℕ
  W = t.negatives

  -- the place that was read of a state
  pub read_row : (p row : ℕ) → Contains room.rows p → row ≡ get_or t.places p row → IsLine t.places t.rows t.row_count p × (row ≡ get_or t.places p 0)
  read_row p row it read =
      let line : IsLine t.places t.rows t.row_count p = row_in t are p (subst (λ (r : Room). Contains r.rows p) (sym is) it) in
      (line, read ∙ get_or_default t.places p row 0 line.in_range)

  pub read_column : (n column : ℕ) → Contains room.columns n → column ≡ get_or t.places n column → IsLine t.places t.columns t.column_count n × (column ≡ get_or t.places n 0)
  read_column n column it read =
      let line : IsLine t.places t.columns t.column_count n = column_in t are n (subst (λ (r : Room). Contains r.columns n) (sym is) it) in
      (line, read ∙ get_or_default t.places n column 0 line.in_range)

  -- one pair
  module _ (p n row column : ℕ) (in_rows : Contains room.rows p) (in_columns : Contains room.columns n) (row_read : row ≡ get_or t.places p row) (column_read : column ≡ get_or t.places n column) where
    row_line : IsLine t.places t.rows t.row_count p
    row_line = (read_row p row in_rows row_read).0

    row_is : row ≡ get_or t.places p 0
    row_is = (read_row p row in_rows row_read).1

    column_line : IsLine t.places t.columns t.column_count n
    column_line = (read_column n column in_columns column_read).0

    column_is : column ≡ get_or t.places n 0
    column_is = (read_column n column in_columns column_read).1

    row_used : row < t.row_count
    row_used = subst (λ k. k < t.row_count) (sym row_is) row_line.used

    column_used : column < t.column_count
    column_used = subst (λ k. k < t.column_count) (sym column_is) column_line.used

    pub add_fits : row * W + column < t.cells.limit
    add_fits = cell_fits t are row column row_used column_used

    is_cell : (x : ℕ) → x ≡ row * W + column → IsCell t x
    is_cell x e = record { row = row; column = column; is = e; row_used = row_used; column_used = column_used }

    the_pair : pair_of t (row * W + column) ≡ (p, n)
    the_pair = ap (pair_of t) (λ i. row_is i * W + column_is i) ∙ pair-line t are p n row_line column_line

    pub add_row_key : row < length t.by_row.last
    add_row_key =
        let used : row < t.row_count = row_used in
        let few : t.row_count ≤ t.positives = are.few_rows in
        let all : length t.by_row.last ≡ t.positives = are.linked.row_keys in
        omega arith

    pub add_column_key : column < length t.by_column.last
    add_column_key =
        let used : column < t.column_count = column_used in
        let few : t.column_count ≤ t.negatives = are.few_columns in
        let all : length t.by_column.last ≡ t.negatives = are.linked.column_keys in
        omega arith

    module _ (more : Numbers) (limit : more.limit ≡ t.cells.limit) (members : more.members ≡ t.cells.members ++ (row * W + column) ∷ []) where
      inserts : Inserts t.cells more (λ y. y ≡ row * W + column)
      inserts = cells-inserts t.cells more (row * W + column) limit members

      row_key : (row * W + column) / W ≡ row
      row_key = let thin : t.column_count ≤ W = are.few_columns in let narrow : column < t.column_count = column_used in div-mul-add row W column (omega arith)

      column_key : (row * W + column) % W ≡ column
      column_key = let thin : t.column_count ≤ W = are.few_columns in let narrow : column < t.column_count = column_used in mod-mul-add row W column (omega arith)

      -- there is space for one more place
      module _ (bound : length more.members ≤ more.limit) where
        more_cells : length t.cells.members < t.cells.limit
        more_cells =
            let all : length more.members ≡ length t.cells.members + 1 = ap length members ∙ length-append t.cells.members ((row * W + column) ∷ []) in
            omega arith

        pub row_link_fits : t.by_row.len < length t.by_row.before
        row_link_fits =
            let size : t.by_row.len ≡ length (map (λ x. x / W) t.cells.members) = are.linked.rows.size in
            let all : length (map (λ x. x / W) t.cells.members) ≡ length t.cells.members = length-map t.cells.members (λ x. x / W) in
            let space : length t.by_row.before ≡ t.cells.limit = are.linked.row_space in
            let less : length t.cells.members < t.cells.limit = more_cells in
            omega arith

        pub column_link_fits : t.by_column.len < length t.by_column.before
        column_link_fits =
            let size : t.by_column.len ≡ length (map (λ x. x % W) t.cells.members) = are.linked.columns.size in
            let all : length (map (λ x. x % W) t.cells.members) ≡ length t.cells.members = length-map t.cells.members (λ x. x % W) in
            let space : length t.by_column.before ≡ t.cells.limit = are.linked.column_space in
            let less : length t.cells.members < t.cells.limit = more_cells in
            omega arith

      module _ (rows columns : LinkTable) (row_same : IsSameSpace t.by_row rows) (column_same : IsSameSpace t.by_column columns) (row_more : (keys : List ℕ) → AreLinked keys t.by_row → AreLinked (keys ++ row ∷ []) rows) (column_more : (keys : List ℕ) → AreLinked keys t.by_column → AreLinked (keys ++ column ∷ []) columns) where
        linked : AreLinkedCells t.positives W more rows columns
        linked = record {
          row_keys = row_same.last ∙ are.linked.row_keys;
          column_keys = column_same.last ∙ are.linked.column_keys;
          row_space = row_same.before ∙ (are.linked.row_space ∙ sym limit);
          column_space = column_same.before ∙ (are.linked.column_space ∙ sym limit);
          rows =
              subst (λ keys. AreLinked keys rows)
              (sym (ap (map (λ x. x / W)) members ∙ (map-append (λ x. x / W) t.cells.members ((row * W + column) ∷ []) ∙ (λ i. map (λ x. x / W) t.cells.members ++ row_key i ∷ []))))
              (row_more (map (λ x. x / W) t.cells.members) are.linked.rows);
          columns =
              subst (λ keys. AreLinked keys columns)
              (sym (ap (map (λ x. x % W)) members ∙ (map-append (λ x. x % W) t.cells.members ((row * W + column) ∷ []) ∙ (λ i. map (λ x. x % W) t.cells.members ++ column_key i ∷ []))))
              (column_more (map (λ x. x % W) t.cells.members) are.linked.columns);
        }

        pub add_tables : AreTables (record t { cells = more; by_row = rows; by_column = columns })
        add_tables = are_grown t are more (λ y. y ≡ row * W + column) inserts is_cell rows columns linked

      pub add_relates : Relates room (room_of (record t { cells = more })) (λ q m. (q ≡ p) × (m ≡ n))
      add_relates =
          subst (λ (r : Room). Relates r (room_of (record t { cells = more })) (λ q m. (q ≡ p) × (m ≡ n))) is
          (grown_relates t are more (λ y. y ≡ row * W + column) inserts is_cell (λ q m. (q ≡ p) × (m ≡ n))
          (λ x e.
          let pair : pair_of t x ≡ (p, n) = ap (pair_of t) e ∙ the_pair in
          (λ i. (pair i).0, λ i. (pair i).1))
          (λ q m same. (row * W + column, refl, the_pair ∙ (λ i. (sym same.0 i, sym same.1 i)))))

    -- a pair that is held is not added again
    pub add_held : Contains t.cells.members (row * W + column) → Relates room room (λ q m. (q ≡ p) × (m ≡ n))
    add_held there =
        let held : Holds room p n =
        subst (λ (r : Room). Holds r p n) is
        (subst (Contains (map (pair_of t) t.cells.members)) the_pair (Contains-map (pair_of t) t.cells.members (row * W + column) there)) in
        Relates-none room (λ q m. (q ≡ p) × (m ≡ n)) (λ q m same. subst (λ k. Holds room k m) (sym same.0) (subst (λ k. Holds room p k) (sym same.1) held))

  -- whether a pair is held
  module _ (p n row column : ℕ) (row_low : row < length room.rows) (row_is : get_or room.rows row 0 ≡ p) (column_low : column < length room.columns) (column_is : get_or room.columns column 0 ≡ n) where
    pub held_at : Contains t.cells.members (row * W + column) ↔ Holds room p n
    held_at =
        let rows : length (take t.row_count t.rows) ≡ t.row_count = length-take-le t.row_count t.rows (rows_fit t are) in
        let columns : length (take t.column_count t.columns) ≡ t.column_count = length-take-le t.column_count t.columns (columns_fit t are) in
        let low : row < length (take t.row_count t.rows) = subst (λ (r : Room). row < length r.rows) (sym is) row_low in
        let narrow : column < length (take t.column_count t.columns) = subst (λ (r : Room). column < length r.columns) (sym is) column_low in
        let row_used : row < t.row_count = omega arith in
        let column_used : column < t.column_count = omega arith in
        let row_at : get_or t.rows row 0 ≡ p =
        sym (get_or-take t.row_count t.rows row 0 row_used) ∙ (ap (λ (r : Room). get_or r.rows row 0) is ∙ row_is) in
        let column_at : get_or t.columns column 0 ≡ n =
        sym (get_or-take t.column_count t.columns column 0 column_used) ∙ (ap (λ (r : Room). get_or r.columns column 0) is ∙ column_is) in
        let row_line = line_of t.places t.rows t.row_count row p are.placed_rows row_used row_at in
        let column_line = line_of t.places t.columns t.column_count column n are.placed_columns column_used column_at in
        let row_place : get_or t.places p 0 ≡ row = subst (λ q. get_or t.places q 0 ≡ row) row_at (are.placed_rows row row_used).1 in
        let column_place : get_or t.places n 0 ≡ column = subst (λ q. get_or t.places q 0 ≡ column) column_at (are.placed_columns column column_used).1 in
        subst (λ (r : Room). Contains t.cells.members (row * W + column) ↔ Holds r p n) is
        (subst (λ x. Contains t.cells.members x ↔ Holds (room_of t) p n) (λ i. row_place i * W + column_place i)
        (held-cell t are p n row_line column_line))

  pub held_row : (p n : ℕ) → Holds room p n → Contains room.rows p
  held_row p n it =
      subst (λ (r : Room). Contains r.rows p) is
      (line_row t are p (held_lines t are p n (subst (λ (r : Room). Holds r p n) (sym is) it)).0)

  pub held_column : (p n : ℕ) → Holds room p n → Contains room.columns n
  held_column p n it =
      subst (λ (r : Room). Contains r.columns n) is
      (line_column t are n (held_lines t are p n (subst (λ (r : Room). Holds r p n) (sym is) it)).1)

  -- the pair that stands at a place
  module _ (i x : ℕ) (low : i < length room.pairs) (read : x ≡ get_or t.cells.members i 0) where
    low_member : i < length t.cells.members
    low_member =
        let same : length (map (pair_of t) t.cells.members) ≡ length t.cells.members = length-map t.cells.members (pair_of t) in
        let below : i < length (map (pair_of t) t.cells.members) = subst (λ (r : Room). i < length r.pairs) (sym is) low in
        omega arith

    the_cell : IsCell t x
    the_cell = are.used x (i, low_member, get_or_default t.cells.members i x 0 low_member ∙ sym read)

    pub pair_width : 0 < W
    pair_width = let thin : t.column_count ≤ W = are.few_columns in let narrow : the_cell.column < t.column_count = the_cell.column_used in omega arith

    pub pair_row : x / W < length t.rows
    pair_row =
        let thin : t.column_count ≤ W = are.few_columns in
        let narrow : the_cell.column < t.column_count = the_cell.column_used in
        let few : t.row_count ≤ length t.rows = rows_fit t are in
        let used : the_cell.row < t.row_count = the_cell.row_used in
        let at : x / W ≡ the_cell.row = ap (λ y. y / W) the_cell.is ∙ div-mul-add the_cell.row W the_cell.column (omega arith) in
        omega arith

    pub pair_column : x % W < length t.columns
    pair_column =
        let thin : t.column_count ≤ W = are.few_columns in
        let narrow : the_cell.column < t.column_count = the_cell.column_used in
        let few : t.column_count ≤ length t.columns = columns_fit t are in
        let at : x % W ≡ the_cell.column = ap (λ y. y % W) the_cell.is ∙ mod-mul-add the_cell.row W the_cell.column (omega arith) in
        omega arith

    held : (p n : ℕ) → (p, n) ≡ get_or room.pairs i (0, 0) → Holds room p n
    held p n e = (i, low, get_or_default room.pairs i (p, n) (0, 0) low ∙ sym e)

    pub pair_held_row : (p n : ℕ) → (p, n) ≡ get_or room.pairs i (0, 0) → Contains room.rows p
    pair_held_row p n e = held_row p n (held p n e)

    pub pair_held_column : (p n : ℕ) → (p, n) ≡ get_or room.pairs i (0, 0) → Contains room.columns n
    pair_held_column p n e = held_column p n (held p n e)

    pub pair_read : (get_or t.rows (x / W) 0, get_or t.columns (x % W) 0) ≡ get_or room.pairs i (0, 0)
    pair_read =
        ap (pair_of t) read
        ∙ (sym (get_or-map (pair_of t) t.cells.members i 0 (0, 0) low_member)
        ∙ ap (λ (r : Room). get_or r.pairs i (0, 0)) is)

-- a row more, where no pair is held
module _ (t : Tables) (are : AreTables t) (room : Room) (is : room_of t ≡ room) (s : ℕ) (in_range : s < room.positives + room.negatives) (rows : All (λ q. q < s) room.rows) (columns : All (λ q. q < s) room.columns) (empty : room.pairs ≡ []) where
  none : t.cells.members ≡ []
  none = no_members (pair_of t) t.cells.members (ap (λ (r : Room). r.pairs) is ∙ empty)

  has_place : s < length t.places
  has_place =
      let all : length t.places ≡ t.positives + t.negatives = are.all_places in
      let low : s < t.positives + t.negatives = subst (λ (r : Room). s < r.positives + r.negatives) (sym is) in_range in
      omega arith

  no_cell : (u : Tables) (x : ℕ) → Contains t.cells.members x → IsCell u x
  no_cell u x it = let nothing : Contains [] x = subst (λ xs. Contains xs x) none it in let low : nothing.0 < 0 = nothing.1 in absurd (omega arith)

  low_rows : All (λ q. q < s) (take t.row_count t.rows)
  low_rows = subst (λ (r : Room). All (λ q. q < s) r.rows) (sym is) rows

  low_columns : All (λ q. q < s) (take t.column_count t.columns)
  low_columns = subst (λ (r : Room). All (λ q. q < s) r.columns) (sym is) columns

  pub no_pairs : (f : ℕ → ℕ × ℕ) → map f t.cells.members ≡ []
  no_pairs f = ap (map f) none

  pub row_space : length room.rows < room.positives → t.row_count < t.positives
  row_space less =
      let some : length (take t.row_count t.rows) < t.positives = subst (λ (r : Room). length r.rows < r.positives) (sym is) less in
      let all : length (take t.row_count t.rows) ≡ t.row_count = length-take-le t.row_count t.rows (rows_fit t are) in
      omega arith

  pub column_space : length room.columns < room.negatives → t.column_count < t.negatives
  column_space less =
      let some : length (take t.column_count t.columns) < t.negatives = subst (λ (r : Room). length r.columns < r.negatives) (sym is) less in
      let all : length (take t.column_count t.columns) ≡ t.column_count = length-take-le t.column_count t.columns (columns_fit t are) in
      omega arith

  pub row_added : length room.rows < room.positives → AreTables (record t { places = set t.places s t.row_count; rows = set t.rows t.row_count s; row_count = t.row_count + 1 })
  row_added less =
      let space : t.row_count < t.positives = row_space less in
      let all : length t.rows ≡ t.positives = are.all_rows in
      record {
        few_rows = omega arith;
        few_columns = are.few_columns;
        all_rows = length-set t.rows t.row_count s ∙ are.all_rows;
        all_columns = are.all_columns;
        all_places = length-set t.places s t.row_count ∙ are.all_places;
        limit = are.limit;
        small = are.small;
        placed_rows = placed-more t.places t.rows t.row_count s are.placed_rows (omega arith) has_place low_rows;
        placed_columns = placed-other t.places t.columns t.column_count s t.row_count are.placed_columns (columns_fit t are) low_columns;
        used = no_cell (record t { places = set t.places s t.row_count; rows = set t.rows t.row_count s; row_count = t.row_count + 1 });
        linked = are.linked;
      }

  pub column_added : length room.columns < room.negatives → AreTables (record t { places = set t.places s t.column_count; columns = set t.columns t.column_count s; column_count = t.column_count + 1 })
  column_added less =
      let space : t.column_count < t.negatives = column_space less in
      let all : length t.columns ≡ t.negatives = are.all_columns in
      record {
        few_rows = are.few_rows;
        few_columns = omega arith;
        all_rows = are.all_rows;
        all_columns = length-set t.columns t.column_count s ∙ are.all_columns;
        all_places = length-set t.places s t.column_count ∙ are.all_places;
        limit = are.limit;
        small = are.small;
        placed_rows = placed-other t.places t.rows t.row_count s t.column_count are.placed_rows (rows_fit t are) low_rows;
        placed_columns = placed-more t.places t.columns t.column_count s are.placed_columns (omega arith) has_place low_columns;
        used = no_cell (record t { places = set t.places s t.column_count; columns = set t.columns t.column_count s; column_count = t.column_count + 1 });
        linked = are.linked;
      }
