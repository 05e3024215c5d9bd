use Rattle.std.proofs.Common.{◌-◌, length}
use Rattle.mls_iface.specs.steps.Reading.{AreRead}
use Rattle.mls_iface.proofs.read.read_declarations.Given as goal

abbrev pub invariant-loop-from : goal.invariant-loop-from
invariant-loop-from l = AreRead l.text l.tokens l.from l.vals l.known

abbrev pub decreases-loop-from : goal.decreases-loop-from
decreases-loop-from l = length l.tokens - l.from
