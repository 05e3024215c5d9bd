use Rattle.mls_iface.proofs.InterfaceLaws.{no_fault_beside_interface}
use Rattle.mls_iface.proofs.laws.no_fault_beside_interface.Goals as goal

pub returns : goal.returns
returns c = no_fault_beside_interface
