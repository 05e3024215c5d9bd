use Rattle.std.proofs.Common.{take}
use Rattle.mls_biunify.specs.steps.Settlement.{Unlinks}
use Rattle.mls_biunify.proofs.settlement.unlink_all.Given as goal

abbrev pub invariant-loop-i : goal.invariant-loop-i
invariant-loop-i l = Unlinks l.initial.table (take l.i l.edges) l.table
