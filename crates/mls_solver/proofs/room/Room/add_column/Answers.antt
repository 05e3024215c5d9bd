use Rattle.mls_solver.specs.steps.RoomParts.{tables_of}
use Rattle.mls_solver.proofs.RoomCalls.{column_added, no_pairs}
use Rattle.mls_solver.proofs.room.Room.add_column.Goals as goal

pub invariant_of-self : goal.invariant_of-self
invariant_of-self c = column_added (tables_of c.self.inside) c.self.invariant c.args.self.now c.self.view_is c.args.s c.requires.in_range c.requires.rows c.requires.columns c.requires.empty c.requires.space

pub returns-clause-pairs : goal.returns-clause-pairs
returns-clause-pairs c = no_pairs (tables_of c.self.inside) c.self.invariant c.args.self.now c.self.view_is c.args.s c.requires.in_range c.requires.rows c.requires.columns c.requires.empty _
