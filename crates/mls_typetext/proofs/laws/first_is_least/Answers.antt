use Rattle.mls_typetext.proofs.LeastFaults.{first_is_least}
use Rattle.mls_typetext.proofs.laws.first_is_least.Goals as goal

pub returns : goal.returns
returns c = first_is_least
