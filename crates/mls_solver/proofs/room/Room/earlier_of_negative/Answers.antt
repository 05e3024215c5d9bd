use Rattle.mls_solver.specs.steps.RoomParts.{tables_of}
use Rattle.mls_solver.proofs.LinkedRooms.{place_in_columns, earlier_negative}
use Rattle.mls_solver.proofs.room.Room.earlier_of_negative.Goals as goal

pub earlier-requires : goal.earlier-requires
earlier-requires c = place_in_columns (tables_of c.self.inside) c.self.invariant c.args.self.now c.self.view_is c.args.i c.requires

pub returns : goal.returns
returns c = earlier_negative (tables_of c.self.inside) c.self.invariant c.args.self.now c.self.view_is c.args.i c.earlier.result c.requires c.earlier.ensures
