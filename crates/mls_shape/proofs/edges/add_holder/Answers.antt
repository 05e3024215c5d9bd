use Rattle.mls_shape.proofs.Holders.{adds-more, adds-all}
use Rattle.mls_shape.proofs.edges.add_holder.Goals as goal

pub loop-j-preserved : goal.loop-j-preserved
loop-j-preserved c =
    adds-more c.args.holders.now.items c.loop-j.holders.items c.args.holder c.args.members.now c.loop-j.j-index c.loop-j-test.true c.loop-j.invariant
    c.index_mut.result.now c.push.new.self (c.requires c.loop-j.j-index 0 c.loop-j-test.true) c.index_mut.ensures.value c.in_ok-push.ensures.ok

pub returns : goal.returns
returns c = adds-all c.args.holders.now.items c.loop-j.holders.items c.args.holder c.args.members.now c.loop-j.j-index c.loop-j-test.false c.loop-j.invariant
