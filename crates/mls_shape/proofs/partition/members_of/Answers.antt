use Rattle.mls_shape.proofs.Refining.{members_more}
use Rattle.mls_shape.proofs.partition.members_of.Goals as goal

pub loop-v-preserved : goal.loop-v-preserved
loop-v-preserved c =
    members_more c.args.blocks.now c.args.count c.loop-v.v c.loop-v.members.items c.add_holder.new.holders.items c.as_slice.result.now c.loop-v.invariant (c.requires c.loop-v.v 0 c.loop-v-test.true)
    c.as_slice.ensures c.in_ok-add_holder.ensures
