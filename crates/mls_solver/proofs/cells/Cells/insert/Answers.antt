use Rattle.std.proofs.Common.{◌≡◌, true, false}
use Rattle.mls_solver.proofs.CellSteps.{cells-inserts, cells-stay}
use Rattle.mls_solver.proofs.cells.Cells.insert.Goals as goal

pub push-requires-clause-new : goal.push-requires-clause-new
push-requires-clause-new c it =
    let yes : c.contains.result ≡ true = c.contains.ensures.1 it in
    let no : c.contains.result ≡ false = c.if-not-contains.true in
    absurd (cc)

pub returns-then-not-contains : goal.returns-then-not-contains
returns-then-not-contains c = cells-inserts c.args.self.now c.push.new.self c.args.x c.push.ensures.limit c.push.ensures.members

pub returns-else-not-contains : goal.returns-else-not-contains
returns-else-not-contains c = cells-stay c.args.self.now c.args.x (c.contains.ensures.0 c.if-not-contains.false)
