use Rattle.mls_names.proofs.OneResolution.{no_unknown_name_beside_a_resolution}
use Rattle.mls_names.proofs.resolution_laws.no_unknown_name_beside_a_resolution.Goals as goal

pub returns : goal.returns
returns c = no_unknown_name_beside_a_resolution
