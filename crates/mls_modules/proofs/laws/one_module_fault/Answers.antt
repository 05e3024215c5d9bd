use Rattle.mls_modules.proofs.SignatureLaws.{one_module_fault}
use Rattle.mls_modules.proofs.laws.one_module_fault.Goals as goal

pub returns : goal.returns
returns c = one_module_fault
