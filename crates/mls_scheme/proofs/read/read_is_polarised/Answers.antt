use Rattle.mls_scheme.proofs.PolarisedTypes.{read-polarised}
use Rattle.mls_scheme.proofs.read.read_is_polarised.Goals as goal

pub returns : goal.returns
returns c = read-polarised
