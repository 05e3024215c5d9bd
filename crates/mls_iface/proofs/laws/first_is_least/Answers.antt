use Rattle.mls_iface.proofs.LeastDeclarationFaults.{first_is_least}
use Rattle.mls_iface.proofs.laws.first_is_least.Goals as goal

pub returns : goal.returns
returns c = first_is_least
