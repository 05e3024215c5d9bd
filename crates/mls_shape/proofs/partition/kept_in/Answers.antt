use Rattle.mls_shape.proofs.Refining.{kept_more, kept_all}
use Rattle.mls_shape.proofs.partition.kept_in.Goals as goal

pub loop-v-preserved : goal.loop-v-preserved
loop-v-preserved c =
    kept_more c.args.blocks.now c.args.block c.args.nodes.now c.loop-v.v-index c.loop-v-test.true c.loop-v.kept c.keep_in.new.kept c.loop-v.invariant c.in_ok-keep_in.ensures

pub returns : goal.returns
returns c = kept_all c.args.blocks.now c.args.block c.args.nodes.now c.loop-v.v-index c.loop-v.kept c.loop-v-test.false c.loop-v.invariant
