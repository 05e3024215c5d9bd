use Rattle.std.proofs.Common.{take, Contains}
use Rattle.mls_biunify.specs.steps.Settlement.{TouchedBy}
use Rattle.mls_biunify.proofs.Collected.{Collected}
use Rattle.mls_biunify.proofs.settlement.touched.Given as goal

abbrev pub invariant-loop-i : goal.invariant-loop-i
invariant-loop-i l = Collected (TouchedBy l.table.automaton) (Contains l.initial.set) (Contains l.set) (take l.i l.relation.pairs)
