use Rattle.mls_shape.proofs.Refining.{bound_more, bound_all}
use Rattle.mls_shape.proofs.partition.bound_of.Goals as goal

pub loop-block-preserved : goal.loop-block-preserved
loop-block-preserved c =
    bound_more c.args.blocks.now c.loop-block.block-index c.loop-block.count c.in_ok-count.count c.loop-block-test.true c.loop-block.invariant c.in_ok-count.ensures.count c.in_ok-count.ensures.block

pub returns : goal.returns
returns c = bound_all c.args.blocks.now c.loop-block.block-index c.loop-block.count c.loop-block-test.false c.loop-block.invariant
