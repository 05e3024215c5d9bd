use Rattle.mls_lines.proofs.ShownTops.{atom_shown}
use Rattle.mls_lines.proofs.showing.add_atom.Goals as goal

pub returns-in_ok-add_showing-in-Var : goal.returns-in_ok-add_showing-in-Var
returns-in_ok-add_showing-in-Var c = atom_shown c.args.atom.now c.in-Var.x c.args.state c.args.showing.now c.add_showing.new.showing c.in-Var.is c.in_ok-add_showing-in-Var.ensures
