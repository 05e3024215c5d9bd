use Rattle.mls_layout.proofs.KnownNodes.{parted_next}
use Rattle.mls_layout.proofs.layout.parts.parts_of.Goals as goal

pub loop-s-preserved : goal.loop-s-preserved
loop-s-preserved c =
    parted_next c.args.a.now c.args.leaves c.args.start c.loop-s.s c.loop-s.end c.in_ok-end.end c.loop-s.nodes c.push.new.self c.in_ok-head_parts.field-0 c.head-head.result.now
    c.loop-s.invariant c.head-head.ensures c.in_ok-head_parts.ensures c.in_ok-end.ensures c.in_ok-push.ensures.ok
