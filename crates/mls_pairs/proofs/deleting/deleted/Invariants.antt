use Rattle.mls_pairs.specs.steps.Deleting.{Deletes}
use Rattle.mls_pairs.proofs.deleting.deleted.Given as goal

abbrev pub invariant-loop-pair : goal.invariant-loop-pair
invariant-loop-pair l = Deletes l.book l.initial.table l.table
