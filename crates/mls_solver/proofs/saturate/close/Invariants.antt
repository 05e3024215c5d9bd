use Rattle.std.proofs.Common.{◌*◌, ◌-◌}
use Rattle.mls_solver.specs.steps.Consequences.{AreTaken}
use Rattle.mls_solver.proofs.saturate.close.Given as goal

abbrev pub invariant-loop-next : goal.invariant-loop-next
invariant-loop-next l = AreTaken l.a l.initial.room l.next l.room

abbrev pub decreases-loop-next : goal.decreases-loop-next
decreases-loop-next l = l.room.positives * l.room.negatives - l.next
