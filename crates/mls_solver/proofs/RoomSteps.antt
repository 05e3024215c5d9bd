-- Rooms by their parts: which cell a pair has, and how rooms grow with their cells.
use Rattle.std.proofs.Common.{◌≡◌, inl, inr, ℕ, ◌+◌, ◌*◌, ◌^◌, ◌<◌, ◌≤◌, ◌==◌, ◌≢◌, Bool, true, false, List, [], ◌∷◌, map, refl, sym, ap, ◌∙◌, subst, arith, length, take, get_or, Contains}
use Rattle.std.specs.Prelude.{◌↔◌, All}
use Rattle.std.proofs.Math.ListN.{set}
use Rattle.std.proofs.lemmas.Bool.{eqb-true, eqb-false}
use Rattle.std.proofs.lemmas.List.Elements.{All-contains}
use Rattle.std.proofs.Math.Nat.{mul-le-mul_right}
use Rattle.std.proofs.lemmas.Nat.{div-mul-add, mod-mul-add}
use Rattle.std.proofs.lemmas.List.{get_or-take, get_or_default, get_or-set_same, get_or-set_other, length-set, length-take-le, map-append}
use Rattle.mls_automaton.proofs.Lists.{Contains-map, Contains-map_back}
use Rattle.mls_solver.specs.Rooms.{Holds}
use Rattle.mls_solver.specs.steps.Numbers.{Numbers, Inserts}
use Rattle.mls_solver.specs.steps.RoomParts.{Tables, pair_of, IsCell, ArePlaced, AreLinkedCells, AreTables, room_of}
use Rattle.mls_solver.specs.steps.Links.{LinkTable}
use Rattle.mls_solver.specs.steps.Growth.{Relates}

-- a state of a line that is used
pub record IsLine (places lines : List ℕ) (count s : ℕ) : Type 0 where
  pub in_range : s < length places
  pub used : get_or places s 0 < count
  pub is : get_or lines (get_or places s 0) 0 ≡ s

pub line_of : (places lines : List ℕ) (count k s : ℕ) → ArePlaced places lines count → k < count → get_or lines k 0 ≡ s → IsLine places lines count s
line_of places lines count k s placed low is =
    let at : get_or places s 0 ≡ k = subst (λ t. get_or places t 0 ≡ k) is (placed k low).1 in
    record {
      in_range = subst (λ t. t < length places) is (placed k low).0;
      used = subst (λ j. j < count) (sym at) low;
      is = ap (λ j. get_or lines j 0) at ∙ is;
    }

pub line_in : (places lines : List ℕ) (count s : ℕ) → ArePlaced places lines count → count ≤ length lines → Contains (take count lines) s → IsLine places lines count s
line_in places lines count s placed few it =
    let all : length (take count lines) ≡ count = length-take-le count lines few in
    let in_list : it.0 < length (take count lines) = it.1 in
    let low : it.0 < count = omega arith in
    line_of places lines count it.0 s placed low
    (get_or_default lines it.0 0 s (omega arith) ∙ (sym (get_or-take count lines it.0 s low) ∙ it.2))

pub in_line : (lines : List ℕ) (count k : ℕ) → count ≤ length lines → k < count → Contains (take count lines) (get_or lines k 0)
in_line lines count k few low =
    let all : length (take count lines) ≡ count = length-take-le count lines few in (
      k,
      omega arith,
      get_or-take count lines k (get_or lines k 0) low ∙ get_or_default lines k (get_or lines k 0) 0 (omega arith),
    )

pub cell-below : (row column rows width : ℕ) → row < rows → column < width → row * width + column < rows * width
cell-below row column rows width low narrow =
    let next : (row + 1) * width ≤ rows * width = mul-le-mul_right width (omega arith) in
    omega arith

module _ (t : Tables) (are : AreTables t) where
  abbrev W : ℕ
  W = t.negatives

  pub rows_fit : t.row_count ≤ length t.rows
  rows_fit = let few : t.row_count ≤ t.positives = are.few_rows in let all : length t.rows ≡ t.positives = are.all_rows in omega arith

  pub columns_fit : t.column_count ≤ length t.columns
  columns_fit = let few : t.column_count ≤ t.negatives = are.few_columns in let all : length t.columns ≡ t.negatives = are.all_columns in omega arith

  pub row_in : (p : ℕ) → Contains (take t.row_count t.rows) p → IsLine t.places t.rows t.row_count p
  row_in p it = line_in t.places t.rows t.row_count p are.placed_rows rows_fit it

  pub column_in : (n : ℕ) → Contains (take t.column_count t.columns) n → IsLine t.places t.columns t.column_count n
  column_in n it = line_in t.places t.columns t.column_count n are.placed_columns columns_fit it

  pub cell_fits : (row column : ℕ) → row < t.row_count → column < t.column_count → row * W + column < t.cells.limit
  cell_fits row column low narrow =
      let few : t.row_count ≤ t.positives = are.few_rows in
      let thin : t.column_count ≤ t.negatives = are.few_columns in
      let below : row * W + column < t.positives * W = cell-below row column t.positives W (omega arith) (omega arith) in
      subst (λ limit. row * W + column < limit) (sym are.limit) below

  pub pair-cell : (row column : ℕ) → column < t.column_count → pair_of t (row * W + column) ≡ (get_or t.rows row 0, get_or t.columns column 0)
  pair-cell row column narrow =
      let thin : t.column_count ≤ t.negatives = are.few_columns in
      let less : column < W = omega arith in
      λ i. (get_or t.rows (div-mul-add row W column less i) 0, get_or t.columns (mod-mul-add row W column less i) 0)

  -- the cell of a pair
  abbrev cell : ℕ → ℕ → ℕ
  cell p n = get_or t.places p 0 * W + get_or t.places n 0

  cell_of : (x p n : ℕ) → Contains t.cells.members x → pair_of t x ≡ (p, n) → x ≡ cell p n
  cell_of x p n member is =
      let at : IsCell t x = are.used x member in
      let pair : (get_or t.rows at.row 0, get_or t.columns at.column 0) ≡ (p, n) =
      sym (pair-cell at.row at.column at.column_used) ∙ (sym (ap (pair_of t) at.is) ∙ is) in
      let row : get_or t.places p 0 ≡ at.row =
      subst (λ s. get_or t.places s 0 ≡ at.row) (λ i. (pair i).0) (are.placed_rows at.row at.row_used).1 in
      let column : get_or t.places n 0 ≡ at.column =
      subst (λ s. get_or t.places s 0 ≡ at.column) (λ i. (pair i).1) (are.placed_columns at.column at.column_used).1 in
      at.is ∙ sym (λ i. row i * W + column i)

  pub pair-line : (p n : ℕ) → IsLine t.places t.rows t.row_count p → IsLine t.places t.columns t.column_count n → pair_of t (cell p n) ≡ (p, n)
  pair-line p n row column =
      pair-cell (get_or t.places p 0) (get_or t.places n 0) column.used
      ∙ (λ i. (row.is i, column.is i))

  pub held-cell : (p n : ℕ) → IsLine t.places t.rows t.row_count p → IsLine t.places t.columns t.column_count n → Contains t.cells.members (cell p n) ↔ Holds (room_of t) p n
  held-cell p n row column = (
    λ it. subst (Contains (map (pair_of t) t.cells.members)) (pair-line p n row column) (Contains-map (pair_of t) t.cells.members (cell p n) it),
    λ it.
        let found = Contains-map_back (pair_of t) t.cells.members (p, n) it in
        subst (Contains t.cells.members) (cell_of found.0 p n found.1 found.2) found.1,
  )

  -- the states of a pair that is held
  pub held_lines : (p n : ℕ) → Holds (room_of t) p n → IsLine t.places t.rows t.row_count p × IsLine t.places t.columns t.column_count n
  held_lines p n it =
      let found = Contains-map_back (pair_of t) t.cells.members (p, n) it in
      let at : IsCell t found.0 = are.used found.0 found.1 in
      let pair : (get_or t.rows at.row 0, get_or t.columns at.column 0) ≡ (p, n) =
      sym (pair-cell at.row at.column at.column_used) ∙ (sym (ap (pair_of t) at.is) ∙ found.2) in (
        line_of t.places t.rows t.row_count at.row p are.placed_rows at.row_used (λ i. (pair i).0),
        line_of t.places t.columns t.column_count at.column n are.placed_columns at.column_used (λ i. (pair i).1),
      )

  pub line_row : (p : ℕ) → IsLine t.places t.rows t.row_count p → Contains (take t.row_count t.rows) p
  line_row p line = subst (Contains (take t.row_count t.rows)) line.is (in_line t.rows t.row_count (get_or t.places p 0) rows_fit line.used)

  pub line_column : (n : ℕ) → IsLine t.places t.columns t.column_count n → Contains (take t.column_count t.columns) n
  line_column n line = subst (Contains (take t.column_count t.columns)) line.is (in_line t.columns t.column_count (get_or t.places n 0) columns_fit line.used)

  -- with more cells
  module _ (more : Numbers) (IsNew : ℕ → Type 0) (inserts : Inserts t.cells more IsNew) (used : (x : ℕ) → IsNew x → IsCell t x) where
    moved : (rows columns : LinkTable) (x : ℕ) → IsCell t x → IsCell (record t { cells = more; by_row = rows; by_column = columns }) x
    moved rows columns x it = record { row = it.row; column = it.column; is = it.is; row_used = it.row_used; column_used = it.column_used }

    pub are_grown : (rows columns : LinkTable) → AreLinkedCells t.positives t.negatives more rows columns → AreTables (record t { cells = more; by_row = rows; by_column = columns })
    are_grown rows columns linked = record {
      few_rows = are.few_rows;
      few_columns = are.few_columns;
      all_rows = are.all_rows;
      all_columns = are.all_columns;
      all_places = are.all_places;
      limit = inserts.limit ∙ are.limit;
      small = subst (λ n. n ≤ 2 ^ 32) (sym inserts.limit) are.small;
      placed_rows = are.placed_rows;
      placed_columns = are.placed_columns;
      used = λ x it.
          elim (inserts.sound x it) [
            | inl old ↦ moved rows columns x (are.used x old)
            | inr new ↦ moved rows columns x (used x new)
          ];
      linked = linked;
    }

    pub grown_relates : (IsPair : ℕ → ℕ → Type 0) → ((x : ℕ) → IsNew x → IsPair (pair_of t x).0 (pair_of t x).1) → ((p n : ℕ) → IsPair p n → (x : ℕ) × IsNew x × (pair_of t x ≡ (p, n))) → Relates (room_of t) (room_of (record t { cells = more })) IsPair
    grown_relates IsPair sound complete = record {
      positives = refl;
      negatives = refl;
      rows = refl;
      columns = refl;
      behind = (
        map (pair_of t) inserts.behind.0,
        ap (map (pair_of t)) inserts.behind.1 ∙ map-append (pair_of t) t.cells.members inserts.behind.0,
      );
      sound = λ p n it.
          let found = Contains-map_back (pair_of t) more.members (p, n) it in
          elim (inserts.sound found.0 found.1) [
            | inl old ↦ inl (subst (Contains (map (pair_of t) t.cells.members)) found.2 (Contains-map (pair_of t) t.cells.members found.0 old))
            | inr new ↦ inr (subst (λ (pair : ℕ × ℕ). IsPair pair.0 pair.1) found.2 (sound found.0 new))
          ];
      complete = λ p n is.
          let found = complete p n is in
          subst (Contains (map (pair_of t) more.members)) found.2 (Contains-map (pair_of t) more.members found.0 (inserts.complete found.0 found.1));
    }

-- a state is given a place that no other has
pub placed-more : (places lines : List ℕ) (count s : ℕ) → ArePlaced places lines count → count < length lines → s < length places → All (λ q. q < s) (take count lines) → ArePlaced (set places s count) (set lines count s) (count + 1)
placed-more places lines count s placed room in_range below k low = go (k == count) refl
  where
    go : (b : Bool) → (k == count) ≡ b → (get_or (set lines count s) k 0 < length (set places s count)) × (get_or (set places s count) (get_or (set lines count s) k 0) 0 ≡ k)
    go true e =
        let same : k ≡ count = eqb-true k count e in
        let line : get_or (set lines count s) k 0 ≡ s = ap (λ j. get_or (set lines count s) j 0) same ∙ get_or-set_same lines count s 0 room in
        let all : length (set places s count) ≡ length places = length-set places s count in (
          let low : s < length (set places s count) = omega arith in subst (λ q. q < length (set places s count)) (sym line) low,
          ap (λ q. get_or (set places s count) q 0) line ∙ (get_or-set_same places s count 0 in_range ∙ sym same),
        )
    go false e =
        let apart : k ≢ count = eqb-false k count e in
        let less : k < count = omega arith in
        let line : get_or (set lines count s) k 0 ≡ get_or lines k 0 = get_or-set_other lines count k s 0 apart in
        let before : get_or lines k 0 < s = All-contains (λ q. q < s) (take count lines) (get_or lines k 0) below (in_line lines count k (omega arith) less) in
        let other : get_or lines k 0 ≢ s = λ is. omega arith in
        let all : length (set places s count) ≡ length places = length-set places s count in
        let old : get_or lines k 0 < length places = (placed k less).0 in (
          let low : get_or lines k 0 < length (set places s count) = omega arith in subst (λ q. q < length (set places s count)) (sym line) low,
          ap (λ q. get_or (set places s count) q 0) line ∙ (get_or-set_other places s (get_or lines k 0) count 0 other ∙ (placed k less).1),
        )

pub placed-other : (places lines : List ℕ) (count s place : ℕ) → ArePlaced places lines count → count ≤ length lines → All (λ q. q < s) (take count lines) → ArePlaced (set places s place) lines count
placed-other places lines count s place placed few below k low =
    let before : get_or lines k 0 < s = All-contains (λ q. q < s) (take count lines) (get_or lines k 0) below (in_line lines count k few low) in
    let other : get_or lines k 0 ≢ s = λ is. omega arith in
    let all : length (set places s place) ≡ length places = length-set places s place in
    let old : get_or lines k 0 < length places = (placed k low).0 in (
      omega arith,
      get_or-set_other places s (get_or lines k 0) place 0 other ∙ (placed k low).1,
    )

pub no_members : {X Y : Type 0} (f : X → Y) (xs : List X) → map f xs ≡ [] → xs ≡ []
no_members f [] e = refl
no_members f (x ∷ xs) e = absurd (cc)
