use Rattle.std.proofs.Common.{sym, subst}
use Rattle.mls_pairs.specs.steps.Deleting.{Deletes, nothing}
use Rattle.mls_pairs.proofs.pairs.left_after.Goals as goal
use Rattle.mls_pairs.proofs.pairs.left_after.Goals.{then-round-ge-ROUNDS+in_ok-delete_all, else-round-ge-ROUNDS}

pub returns-clause-deletes : goal.returns-clause-deletes
returns-clause-deletes c = elim c.if-round-ge-ROUNDS.branch [
  | then-round-ge-ROUNDS+in_ok-delete_all w ↦ subst (Deletes c.args.book.now c.args.found.table) (sym w.table-is) w.in_ok-delete_all.ensures
  | else-round-ge-ROUNDS w ↦ subst (Deletes c.args.book.now c.args.found.table) (sym w.table-is) nothing
]
