use Rattle.mls_reader.proofs.LaterSteps.{parts-more}
use Rattle.mls_reader.proofs.nodes.put_parts.Goals as goal

pub loop-preserved : goal.loop-preserved
loop-preserved c =
    parts-more c.loop.later.items c.push.new.self.items c.args.later.now.items c.loop.counter c.in_ok-push.ensures.items c.loop.invariant
