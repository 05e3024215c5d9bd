use Rattle.mls_iface.proofs.DeclaredTypes.{interface_is_valid}
use Rattle.mls_iface.proofs.laws.interface_is_valid.Goals as goal

pub returns : goal.returns
returns c = interface_is_valid
