use Rattle.mls_names.proofs.OneResolution.{one_unknown_name}
use Rattle.mls_names.proofs.resolution_laws.one_unknown_name.Goals as goal

pub returns : goal.returns
returns c = one_unknown_name
