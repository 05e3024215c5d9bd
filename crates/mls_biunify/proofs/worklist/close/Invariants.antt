use Rattle.std.proofs.Common.{◌^◌, ◌-◌}
use Rattle.mls_solver.specs.steps.Consequences.{AreTaken}
use Rattle.mls_biunify.proofs.worklist.close.Given as goal

abbrev pub invariant-loop-next : goal.invariant-loop-next
invariant-loop-next l = AreTaken l.table.automaton l.initial.room l.next l.room

abbrev pub decreases-loop-next : goal.decreases-loop-next
decreases-loop-next l = 2 ^ 64 - l.next
