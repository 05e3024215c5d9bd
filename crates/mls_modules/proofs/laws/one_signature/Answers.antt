use Rattle.mls_modules.proofs.SignatureLaws.{one_signature}
use Rattle.mls_modules.proofs.laws.one_signature.Goals as goal

pub returns : goal.returns
returns c = one_signature
