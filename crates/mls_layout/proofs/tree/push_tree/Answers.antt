use Rattle.mls_layout.proofs.TreesMade.{tree_none}
use Rattle.mls_layout.proofs.tree.push_tree.Goals as goal

pub returns-in_ok-none-in-None : goal.returns-in_ok-none-in-None
returns-in_ok-none-in-None c =
    tree_none c.args.polarity c.args.members.now c.args.book.now c.push_none.new.book c.in_ok-none-in-None.none.0 c.in-None.ensures.cases
    c.in_ok-none-in-None.ensures.book c.in_ok-none-in-None.ensures.number
