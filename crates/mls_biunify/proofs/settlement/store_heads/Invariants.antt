use Rattle.std.proofs.Common.{length}
use Rattle.mls_biunify.proofs.StoredHeads.{AreStoring}
use Rattle.mls_biunify.proofs.settlement.store_heads.Given as goal

abbrev pub invariant-loop-change : goal.invariant-loop-change
invariant-loop-change l = AreStoring l.initial.table l.initial.heads.items l.heads.items l.table

abbrev pub decreases-loop-change : goal.decreases-loop-change
decreases-loop-change l = length l.heads.items
