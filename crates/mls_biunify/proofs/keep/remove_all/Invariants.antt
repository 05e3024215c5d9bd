use Rattle.std.proofs.Common.{length}
use Rattle.mls_biunify.proofs.Removals.{AreRemoving}
use Rattle.mls_biunify.proofs.keep.remove_all.Given as goal

abbrev pub invariant-loop-s : goal.invariant-loop-s
invariant-loop-s l = AreRemoving l.initial.table l.initial.states.items l.states.items l.table

abbrev pub decreases-loop-s : goal.decreases-loop-s
decreases-loop-s l = length l.states.items
