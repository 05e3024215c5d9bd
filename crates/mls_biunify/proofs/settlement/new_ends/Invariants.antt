use Rattle.std.proofs.Common.{take, Contains}
use Rattle.mls_biunify.specs.steps.Settlement.{GetsEdges}
use Rattle.mls_biunify.proofs.Collected.{Collected}
use Rattle.mls_biunify.proofs.settlement.new_ends.Given as goal

abbrev pub invariant-loop-i : goal.invariant-loop-i
invariant-loop-i l = Collected (GetsEdges l.table.automaton) (Contains l.initial.ends.items) (Contains l.ends.items) (take l.i l.relation.pairs)
