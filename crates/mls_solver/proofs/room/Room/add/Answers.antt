use Rattle.std.proofs.Common.{◌≡◌, true, false, ◌+◌, ◌*◌, ◌^◌, ◌<◌, ◌≤◌, arith}
use Rattle.mls_solver.specs.steps.RoomParts.{tables_of}
use Rattle.mls_solver.proofs.RoomCalls.{add_fits, add_held, add_row_key, add_column_key, add_tables, add_relates, row_link_fits, column_link_fits}
use Rattle.mls_solver.proofs.room.Room.add.Goals as goal

pub overflow_mul-cell : goal.overflow_mul-cell
overflow_mul-cell c =
    let below : c.index-row.result.now * c.self.inside.negatives + c.index-column.result.now < c.self.inside.cells.limit = add_fits (tables_of c.self.inside) c.self.invariant c.args.self.now c.self.view_is c.args.positive c.args.negative c.index-row.result.now c.index-column.result.now c.requires.row c.requires.column c.index-row.ensures c.index-column.ensures in
    let small : c.self.inside.cells.limit ≤ 2 ^ 32 = c.self.invariant.small in
    record { fits = omega arith }

pub overflow_add-cell : goal.overflow_add-cell
overflow_add-cell c =
    let below : c.index-row.result.now * c.self.inside.negatives + c.index-column.result.now < c.self.inside.cells.limit = add_fits (tables_of c.self.inside) c.self.invariant c.args.self.now c.self.view_is c.args.positive c.args.negative c.index-row.result.now c.index-column.result.now c.requires.row c.requires.column c.index-row.ensures c.index-column.ensures in
    let small : c.self.inside.cells.limit ≤ 2 ^ 32 = c.self.invariant.small in
    record { fits = omega arith }

pub contains-requires : goal.contains-requires
contains-requires c = add_fits (tables_of c.self.inside) c.self.invariant c.args.self.now c.self.view_is c.args.positive c.args.negative c.index-row.result.now c.index-column.result.now c.requires.row c.requires.column c.index-row.ensures c.index-column.ensures

pub returns-then-contains : goal.returns-then-contains
returns-then-contains c = add_held (tables_of c.self.inside) c.self.invariant c.args.self.now c.self.view_is c.args.positive c.args.negative c.index-row.result.now c.index-column.result.now c.requires.row c.requires.column c.index-row.ensures c.index-column.ensures (c.contains.ensures.0 c.if-contains.true)

pub push-requires-clause-in_range : goal.push-requires-clause-in_range
push-requires-clause-in_range c = add_fits (tables_of c.self.inside) c.self.invariant c.args.self.now c.self.view_is c.args.positive c.args.negative c.index-row.result.now c.index-column.result.now c.requires.row c.requires.column c.index-row.ensures c.index-column.ensures

pub push-requires-clause-new : goal.push-requires-clause-new
push-requires-clause-new c it =
    let yes : c.contains.result ≡ true = c.contains.ensures.1 it in
    let no : c.contains.result ≡ false = c.if-contains.false in
    absurd (cc)

pub push-requires-2-clause-key : goal.push-requires-2-clause-key
push-requires-2-clause-key c = add_row_key (tables_of c.self.inside) c.self.invariant c.args.self.now c.self.view_is c.args.positive c.args.negative c.index-row.result.now c.index-column.result.now c.requires.row c.requires.column c.index-row.ensures c.index-column.ensures

pub push-requires-2-clause-space : goal.push-requires-2-clause-space
push-requires-2-clause-space c = row_link_fits (tables_of c.self.inside) c.self.invariant c.args.self.now c.self.view_is c.args.positive c.args.negative c.index-row.result.now c.index-column.result.now c.requires.row c.requires.column c.index-row.ensures c.index-column.ensures c.push.new.self c.push.ensures.limit c.push.ensures.members c.push.ensures.bound

pub push-requires-3-clause-key : goal.push-requires-3-clause-key
push-requires-3-clause-key c = add_column_key (tables_of c.self.inside) c.self.invariant c.args.self.now c.self.view_is c.args.positive c.args.negative c.index-row.result.now c.index-column.result.now c.requires.row c.requires.column c.index-row.ensures c.index-column.ensures

pub push-requires-3-clause-space : goal.push-requires-3-clause-space
push-requires-3-clause-space c = column_link_fits (tables_of c.self.inside) c.self.invariant c.args.self.now c.self.view_is c.args.positive c.args.negative c.index-row.result.now c.index-column.result.now c.requires.row c.requires.column c.index-row.ensures c.index-column.ensures c.push.new.self c.push.ensures.limit c.push.ensures.members c.push.ensures.bound

pub invariant_of-self : goal.invariant_of-self
invariant_of-self c = add_tables (tables_of c.self.inside) c.self.invariant c.args.self.now c.self.view_is c.args.positive c.args.negative c.index-row.result.now c.index-column.result.now c.requires.row c.requires.column c.index-row.ensures c.index-column.ensures c.push.new.self c.push.ensures.limit c.push.ensures.members c.push-2.new.self c.push-3.new.self c.push-2.ensures.space c.push-3.ensures.space c.push-2.ensures.linked c.push-3.ensures.linked

pub returns : goal.returns
returns c = add_relates (tables_of c.self.inside) c.self.invariant c.args.self.now c.self.view_is c.args.positive c.args.negative c.index-row.result.now c.index-column.result.now c.requires.row c.requires.column c.index-row.ensures c.index-column.ensures c.push.new.self c.push.ensures.limit c.push.ensures.members
