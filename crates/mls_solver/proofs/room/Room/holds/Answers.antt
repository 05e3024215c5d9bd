use Rattle.mls_solver.specs.steps.RoomParts.{tables_of}
use Rattle.mls_solver.proofs.RoomCalls.{held_at, held_row, held_column}
use Rattle.mls_solver.proofs.room.Room.holds.Goals as goal

pub returns-in-None : goal.returns-in-None
returns-in-None c = (
  λ e. absurd (cc),
  λ it. absurd (c.in-None.ensures (held_row (tables_of c.self.inside) c.self.invariant c.args.self.now c.self.view_is c.args.positive.0 c.args.negative.0 it)),
)

pub returns-in-None-column_of : goal.returns-in-None-column_of
returns-in-None-column_of c = (
  λ e. absurd (cc),
  λ it. absurd (c.in-None-column_of.ensures (held_column (tables_of c.self.inside) c.self.invariant c.args.self.now c.self.view_is c.args.positive.0 c.args.negative.0 it)),
)

pub returns-in-Some-column_of : goal.returns-in-Some-column_of
returns-in-Some-column_of c =
    let row = c.in-Some.ensures in
    let column = c.in-Some-column_of.ensures in
    let held = held_at (tables_of c.self.inside) c.self.invariant c.args.self.now c.self.view_is c.args.positive.0 c.args.negative.0 c.in-Some.row c.in-Some-column_of.column row.0 row.1 column.0 column.1 in (
      λ e. held.0 (c.contains.ensures.0 e),
      λ it. c.contains.ensures.1 (held.1 it),
    )
