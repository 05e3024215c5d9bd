use Rattle.mls_typetext.proofs.StopLaws.{one_first_fault}
use Rattle.mls_typetext.proofs.laws.one_first_fault.Goals as goal

pub returns : goal.returns
returns c = one_first_fault
