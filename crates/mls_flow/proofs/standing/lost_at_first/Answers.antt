use Rattle.mls_flow.proofs.Losses.{lost-more}
use Rattle.mls_flow.proofs.standing.lost_at_first.Goals as goal

pub loop-i-preserved : goal.loop-i-preserved
loop-i-preserved c =
    lost-more _ c.loop-i.i c.args.left.now c.loop-i.lost.items c.note_if_lost.new.lost.items c.loop-i.invariant c.loop-i-test.true c.in_ok-note_if_lost.ensures
