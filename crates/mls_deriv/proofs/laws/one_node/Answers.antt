use Rattle.mls_deriv.proofs.SpelledNodes.{one_node}
use Rattle.mls_deriv.proofs.laws.one_node.Goals as goal

pub returns : goal.returns
returns c = one_node
