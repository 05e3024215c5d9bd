use Rattle.mls_modules.proofs.ValidSignatures.{signatures_are_valid}
use Rattle.mls_modules.proofs.laws.signatures_are_valid.Goals as goal

pub returns : goal.returns
returns c = signatures_are_valid
