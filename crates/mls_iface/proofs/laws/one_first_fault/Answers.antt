use Rattle.mls_iface.proofs.InterfaceLaws.{one_first_fault}
use Rattle.mls_iface.proofs.laws.one_first_fault.Goals as goal

pub returns : goal.returns
returns c = one_first_fault
