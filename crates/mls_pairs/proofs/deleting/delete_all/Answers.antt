use Rattle.mls_pairs.proofs.Deletions.{deletes_trans}
use Rattle.mls_pairs.proofs.deleting.delete_all.Goals as goal

pub loop-gone-init : goal.loop-gone-init
loop-gone-init c = c.in_ok-gone.ensures

pub loop-gone-preserved : goal.loop-gone-preserved
loop-gone-preserved c = deletes_trans c.args.book.now c.loop-gone.invariant c.in_ok-gone-2.ensures

pub returns : goal.returns
returns c = c.loop-gone.invariant
