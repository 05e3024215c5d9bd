use Rattle.mls_pairs.specs.steps.Deleting.{nothing}
use Rattle.mls_pairs.proofs.Deletions.{deletes_trans}
use Rattle.mls_pairs.proofs.deleting.deleted.Goals as goal

pub loop-pair-init : goal.loop-pair-init
loop-pair-init c = nothing

pub loop-pair-preserved : goal.loop-pair-preserved
loop-pair-preserved c = deletes_trans c.args.book.now c.loop-pair.invariant c.deletes.ensures.deletes
