use Rattle.mls_lines.proofs.ShownTops.{atoms_next}
use Rattle.mls_lines.proofs.showing.add_atoms.Goals as goal

pub loop-j-preserved : goal.loop-j-preserved
loop-j-preserved c =
    atoms_next c.args.book.now c.args.atoms.now c.loop-j.j-index 0 c.args.state c.args.showing.now c.loop-j.showing c.add_atom.new.showing c.node.result.now c.loop-j-test.true c.loop-j.invariant c.node.ensures.node c.in_ok-add_atom.ensures
