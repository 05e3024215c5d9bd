use Rattle.mls_solver.specs.steps.RoomParts.{tables_of}
use Rattle.mls_solver.proofs.LinkedRooms.{place_in_rows, earlier_positive}
use Rattle.mls_solver.proofs.room.Room.earlier_of_positive.Goals as goal

pub earlier-requires : goal.earlier-requires
earlier-requires c = place_in_rows (tables_of c.self.inside) c.self.invariant c.args.self.now c.self.view_is c.args.i c.requires

pub returns : goal.returns
returns c = earlier_positive (tables_of c.self.inside) c.self.invariant c.args.self.now c.self.view_is c.args.i c.earlier.result c.requires c.earlier.ensures
