use Rattle.mls_names.proofs.OneResolution.{resolution_or_unknown_name}
use Rattle.mls_names.proofs.resolution_laws.resolution_or_unknown_name.Goals as goal

pub returns : goal.returns
returns c = resolution_or_unknown_name
