use Rattle.mls_iface.proofs.InterfaceTotal.{interface_or_fault}
use Rattle.mls_iface.proofs.laws.interface_or_fault.Goals as goal

pub returns : goal.returns
returns c = interface_or_fault
