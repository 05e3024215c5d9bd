use Rattle.mls_typetext.proofs.StopLaws.{no_fault_beside_reading}
use Rattle.mls_typetext.proofs.laws.no_fault_beside_reading.Goals as goal

pub returns : goal.returns
returns c = no_fault_beside_reading
