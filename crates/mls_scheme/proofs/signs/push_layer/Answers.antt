use Rattle.mls_scheme.proofs.FoundSigns.{layer-next}
use Rattle.mls_scheme.proofs.signs.push_layer.Goals as goal

pub loop-j-preserved : goal.loop-j-preserved
loop-j-preserved c =
    layer-next c.args.book.now c.args.sign c.args.atoms.now c.loop-j.j-index 0 c.args.work.now.items c.loop-j.work.items c.push_children.new.work.items c.node.result.now c.loop-j-test.true c.loop-j.invariant c.node.ensures.node c.in_ok-push_children.ensures
