use Rattle.mls_shape.proofs.FoundEdges.{targets_more, targets_all}
use Rattle.mls_shape.proofs.edges.targets_of.Goals as goal

pub loop-m-preserved : goal.loop-m-preserved
loop-m-preserved c =
    targets_more c.args.a.now c.args.holders.now c.args.members.now c.loop-m.m-index c.loop-m.targets.items c.add_partners.new.targets.items c.loop-m-test.true
    c.loop-m.invariant c.in_ok-add_partners.ensures

pub returns : goal.returns
returns c = targets_all c.args.a.now c.args.holders.now c.args.members.now c.loop-m.m-index c.loop-m.targets.items c.loop-m-test.false c.loop-m.invariant
