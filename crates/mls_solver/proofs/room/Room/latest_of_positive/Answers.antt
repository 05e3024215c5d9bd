use Rattle.mls_solver.specs.steps.RoomParts.{tables_of}
use Rattle.mls_solver.proofs.LinkedRooms.{no_latest_row, latest_at_row, found_row_link}
use Rattle.mls_solver.proofs.room.Room.latest_of_positive.Goals as goal

pub returns-in-None : goal.returns-in-None
returns-in-None c = no_latest_row (tables_of c.self.inside) c.self.invariant c.args.self.now c.self.view_is c.args.p.0 c.in-None.ensures

pub latest-requires : goal.latest-requires
latest-requires c = found_row_link (tables_of c.self.inside) c.self.invariant c.args.self.now c.self.view_is c.in-Some.row c.in-Some.ensures.0

pub returns-in-Some : goal.returns-in-Some
returns-in-Some c = latest_at_row (tables_of c.self.inside) c.self.invariant c.args.self.now c.self.view_is c.args.p.0 c.in-Some.row c.latest.result c.in-Some.ensures.0 c.in-Some.ensures.1 c.latest.ensures
