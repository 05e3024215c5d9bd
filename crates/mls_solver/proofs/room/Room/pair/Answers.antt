use Rattle.std.proofs.Common.{◌≡◌, ℕ, ◌<◌, ◌/◌, ◌%◌, List, length, get_or, subst, sym, ◌∙◌}
use Rattle.std.proofs.lemmas.List.{get_or_default}
use Rattle.mls_solver.specs.steps.RoomParts.{tables_of}
use Rattle.mls_solver.proofs.RoomCalls.{pair_width, pair_row, pair_column, pair_read, pair_held_row, pair_held_column}
use Rattle.mls_solver.proofs.room.Room.pair.Goals as goal

pub nonzero_div-cell : goal.nonzero_div-cell
nonzero_div-cell c = pair_width (tables_of c.self.inside) c.self.invariant c.args.self.now c.self.view_is c.args.i c.get-cell.result c.requires c.get-cell.ensures

pub index-requires : goal.index-requires
index-requires c =
    subst (λ n. c.get-cell.result / c.self.inside.negatives < n) (sym c.self.inside.rows.ok.0)
    (pair_row (tables_of c.self.inside) c.self.invariant c.args.self.now c.self.view_is c.args.i c.get-cell.result c.requires c.get-cell.ensures)

pub nonzero_rem-cell : goal.nonzero_rem-cell
nonzero_rem-cell c = pair_width (tables_of c.self.inside) c.self.invariant c.args.self.now c.self.view_is c.args.i c.get-cell.result c.requires c.get-cell.ensures

pub index-requires-2 : goal.index-requires-2
index-requires-2 c =
    subst (λ n. c.get-cell.result % c.self.inside.negatives < n) (sym c.self.inside.columns.ok.0)
    (pair_column (tables_of c.self.inside) c.self.invariant c.args.self.now c.self.view_is c.args.i c.get-cell.result c.requires c.get-cell.ensures)

abbrev IsPair : (p n q m : ℕ) → Type 0
IsPair p n q m = let x : ℕ × ℕ = (p, n) in let y : ℕ × ℕ = (q, m) in x ≡ y

-- the pair that was read
the_pair : (rows columns : List ℕ) (r c row column : ℕ) → row ≡ get_or rows r row → column ≡ get_or columns c column → r < length rows → c < length columns → IsPair row column (get_or rows r 0) (get_or columns c 0)
the_pair rows columns r c row column row_is column_is low narrow =
    let row_at : row ≡ get_or rows r 0 = row_is ∙ get_or_default rows r row 0 low in
    let column_at : column ≡ get_or columns c 0 = column_is ∙ get_or_default columns c column 0 narrow in
    λ i. (row_at i, column_at i)

pub returns-clause-pair : goal.returns-clause-pair
returns-clause-pair c =
    (the_pair c.self.inside.rows.items c.self.inside.columns.items (c.get-cell.result / c.self.inside.negatives) (c.get-cell.result % c.self.inside.negatives) c.index.result.now c.index-2.result.now c.index.ensures c.index-2.ensures
    (pair_row (tables_of c.self.inside) c.self.invariant c.args.self.now c.self.view_is c.args.i c.get-cell.result c.requires c.get-cell.ensures)
    (pair_column (tables_of c.self.inside) c.self.invariant c.args.self.now c.self.view_is c.args.i c.get-cell.result c.requires c.get-cell.ensures)
    ∙ pair_read (tables_of c.self.inside) c.self.invariant c.args.self.now c.self.view_is c.args.i c.get-cell.result c.requires c.get-cell.ensures)

pub returns-clause-row : goal.returns-clause-row
returns-clause-row c =
    pair_held_row (tables_of c.self.inside) c.self.invariant c.args.self.now c.self.view_is c.args.i c.get-cell.result c.requires c.get-cell.ensures c.index.result.now c.index-2.result.now
    (the_pair c.self.inside.rows.items c.self.inside.columns.items (c.get-cell.result / c.self.inside.negatives) (c.get-cell.result % c.self.inside.negatives) c.index.result.now c.index-2.result.now c.index.ensures c.index-2.ensures
    (pair_row (tables_of c.self.inside) c.self.invariant c.args.self.now c.self.view_is c.args.i c.get-cell.result c.requires c.get-cell.ensures)
    (pair_column (tables_of c.self.inside) c.self.invariant c.args.self.now c.self.view_is c.args.i c.get-cell.result c.requires c.get-cell.ensures)
    ∙ pair_read (tables_of c.self.inside) c.self.invariant c.args.self.now c.self.view_is c.args.i c.get-cell.result c.requires c.get-cell.ensures)

pub returns-clause-column : goal.returns-clause-column
returns-clause-column c =
    pair_held_column (tables_of c.self.inside) c.self.invariant c.args.self.now c.self.view_is c.args.i c.get-cell.result c.requires c.get-cell.ensures c.index.result.now c.index-2.result.now
    (the_pair c.self.inside.rows.items c.self.inside.columns.items (c.get-cell.result / c.self.inside.negatives) (c.get-cell.result % c.self.inside.negatives) c.index.result.now c.index-2.result.now c.index.ensures c.index-2.ensures
    (pair_row (tables_of c.self.inside) c.self.invariant c.args.self.now c.self.view_is c.args.i c.get-cell.result c.requires c.get-cell.ensures)
    (pair_column (tables_of c.self.inside) c.self.invariant c.args.self.now c.self.view_is c.args.i c.get-cell.result c.requires c.get-cell.ensures)
    ∙ pair_read (tables_of c.self.inside) c.self.invariant c.args.self.now c.self.view_is c.args.i c.get-cell.result c.requires c.get-cell.ensures)
