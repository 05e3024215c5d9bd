use Rattle.mls_pairs.proofs.Growing.{found_next}
use Rattle.mls_pairs.proofs.found.Found.add_all.Goals as goal

pub loop-pair-preserved : goal.loop-pair-preserved
loop-pair-preserved c =
    found_next c.args.self.now c.loop-pair.self c.add.new.self c.args.pairs.now c.loop-pair.pair-index _ c.loop-pair-test.true c.loop-pair.invariant c.in_ok-add.ensures
