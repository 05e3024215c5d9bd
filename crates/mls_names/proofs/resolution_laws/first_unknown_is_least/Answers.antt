use Rattle.mls_names.proofs.UnknownsRise.{first_unknown_is_least}
use Rattle.mls_names.proofs.resolution_laws.first_unknown_is_least.Goals as goal

pub returns : goal.returns
returns c = first_unknown_is_least
