use Rattle.mls_deriv.proofs.TextSections.{one_derivation}
use Rattle.mls_deriv.proofs.laws.one_derivation.Goals as goal

pub returns : goal.returns
returns c = one_derivation
