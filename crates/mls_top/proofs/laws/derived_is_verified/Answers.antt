use Rattle.mls_top.proofs.StoredDerivations.{derived_is_verified}
use Rattle.mls_top.proofs.laws.derived_is_verified.Goals as goal

pub returns : goal.returns
returns c = derived_is_verified
