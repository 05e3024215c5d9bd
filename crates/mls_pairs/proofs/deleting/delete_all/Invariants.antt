use Rattle.mls_pairs.specs.steps.Deleting.{Deletes}
use Rattle.mls_pairs.proofs.deleting.delete_all.Given as goal

abbrev pub invariant-loop-gone : goal.invariant-loop-gone
invariant-loop-gone l = Deletes l.book l.fn.table l.table

abbrev pub decreases-loop-gone : goal.decreases-loop-gone
decreases-loop-gone l = l.left
