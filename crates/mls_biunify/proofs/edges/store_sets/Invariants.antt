use Rattle.std.proofs.Common.{length}
use Rattle.mls_biunify.proofs.CutSets.{AreStoring}
use Rattle.mls_biunify.proofs.edges.store_sets.Given as goal

abbrev pub invariant-loop-change : goal.invariant-loop-change
invariant-loop-change l = AreStoring l.initial.sets.items l.initial.changes.items l.changes.items l.sets.items

abbrev pub decreases-loop-change : goal.decreases-loop-change
decreases-loop-change l = length l.changes.items
