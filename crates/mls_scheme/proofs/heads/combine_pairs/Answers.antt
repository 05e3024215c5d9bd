use Rattle.mls_scheme.proofs.CombinedAll.{half-next}
use Rattle.mls_scheme.proofs.heads.combine_pairs.Goals as goal

pub loop-i-preserved : goal.loop-i-preserved
loop-i-preserved c =
    half-next c.args.p c.args.heads.now c.loop-i.i c.loop-i.half.items c.push.new.self.items c.in_ok-combine_at.field-0 c.loop-i.invariant c.loop-i-test.true c.in_ok-combine_at.ensures c.in_ok-push.ensures.items
