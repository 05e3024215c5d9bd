use Rattle.mls_iface.proofs.InterfaceLaws.{one_interface}
use Rattle.mls_iface.proofs.laws.one_interface.Goals as goal

pub returns : goal.returns
returns c = one_interface
