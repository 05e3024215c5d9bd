use Rattle.mls_infer.proofs.JoinedLists.{taken_joined}
use Rattle.mls_infer.proofs.pending.with_all.Goals as goal

pub returns : goal.returns
returns c = taken_joined c.loop-entry.all c.args.env c.args.more.now c.loop-entry.entry-index c.loop-entry-test.false c.loop-entry.invariant
