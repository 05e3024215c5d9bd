use Rattle.mls_names.proofs.OneResolution.{one_resolution}
use Rattle.mls_names.proofs.resolution_laws.one_resolution.Goals as goal

pub returns : goal.returns
returns c = one_resolution
