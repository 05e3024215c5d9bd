use Rattle.mls_scheme.proofs.UsedVariables.{uses-next}
use Rattle.mls_scheme.proofs.uses.add_uses.Goals as goal

pub loop-j-preserved : goal.loop-j-preserved
loop-j-preserved c =
    uses-next c.args.book.now c.args.atoms.now c.loop-j.j-index 0 c.args.i c.args.uses.now.items c.loop-j.uses.items c.add_use.new.uses.items c.node.result.now c.loop-j-test.true c.loop-j.invariant c.node.ensures.node c.in_ok-add_use.ensures
