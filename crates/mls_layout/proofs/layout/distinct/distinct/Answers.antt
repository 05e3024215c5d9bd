use Rattle.mls_layout.proofs.Distinct.{nodes_are}
use Rattle.mls_layout.proofs.layout.distinct.distinct.Goals as goal

pub returns : goal.returns
returns c = nodes_are c.args.ids c.in_ok-left.left c.in_ok-numbers.numbers.keys c.in_ok-numbers.ensures c.in_ok-left.ensures
