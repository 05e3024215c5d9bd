use Rattle.mls_infer.proofs.MetTogether.{set_all, set_step}
use Rattle.mls_infer.proofs.meets.set_of.Goals as goal

pub loop-s-preserved : goal.loop-s-preserved
loop-s-preserved c = set_step c.args.numbers.now c.loop-s.s-index _ c.loop-s-test.true c.loop-s.set c.insert.new.self c.loop-s.invariant c.in_ok-insert.ensures.ok

pub returns : goal.returns
returns c = set_all c.args.numbers.now c.loop-s.s-index c.loop-s-test.false c.loop-s.set c.loop-s.invariant
