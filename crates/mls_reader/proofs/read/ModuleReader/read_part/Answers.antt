use Rattle.std.proofs.Common.{sym}
use Rattle.mls_reader.proofs.ReaderSteps.{deep-refused, owed-refused, acted-tried}
use Rattle.mls_reader.proofs.read.ModuleReader.read_part.Goals as goal
use Rattle.mls_reader.proofs.read.ModuleReader.read_part.Goals.{else-not-begun-via-then-not-begun+else-not-empty, else-not-begun-via-else-not-begun}

pub returns-then-is_too_deep-clause-refused : goal.returns-then-is_too_deep-clause-refused
returns-then-is_too_deep-clause-refused c = λ other. deep-refused c.args.text.now c.args.token c.args.part (sym c.if-is_too_deep.ensures)

pub returns-then-not-empty-clause-refused : goal.returns-then-not-empty-clause-refused
returns-then-not-empty-clause-refused c = λ other.
    owed-refused c.args.text.now c.args.token c.args.part c.args.self.now c.begin.new.self c.in_ok-begun.begun c.in_ok-begun.ensures c.if-not-begun.true (sym c.if-not-empty.ensures)

pub returns-clause-tried : goal.returns-clause-tried
returns-clause-tried c =
    acted-tried c.args.text.now c.args.token c.args.part c.args.self.now c.begin.new.self c.in_ok-begun.begun (sym c.if-is_too_deep.ensures) c.in_ok-begun.ensures
    (elim c.else-not-begun.branch [ else-not-begun-via-then-not-begun+else-not-empty w ↦ λ e. sym w.if-not-empty.ensures | else-not-begun-via-else-not-begun w ↦ λ e. absurd (cc) ])
