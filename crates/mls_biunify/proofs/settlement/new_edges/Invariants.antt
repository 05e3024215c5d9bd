use Rattle.std.proofs.Common.{take, Contains}
use Rattle.mls_biunify.proofs.Collected.{Collected}
use Rattle.mls_biunify.proofs.SettledEdges.{Gives}
use Rattle.mls_biunify.proofs.settlement.new_edges.Given as goal

abbrev pub invariant-loop-end : goal.invariant-loop-end
invariant-loop-end l = Collected (Gives l.table.automaton) (Contains l.initial.edges.items) (Contains l.edges.items) (take l.end-index l.end-items)
