use Rattle.mls_modules.proofs.SignatureLaws.{no_fault_beside_signature}
use Rattle.mls_modules.proofs.laws.no_fault_beside_signature.Goals as goal

pub returns : goal.returns
returns c = no_fault_beside_signature
