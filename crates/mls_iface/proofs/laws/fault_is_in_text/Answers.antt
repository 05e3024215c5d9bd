use Rattle.mls_iface.proofs.FaultsWithin.{fault-within}
use Rattle.mls_iface.proofs.laws.fault_is_in_text.Goals as goal

pub returns : goal.returns
returns c = fault-within
