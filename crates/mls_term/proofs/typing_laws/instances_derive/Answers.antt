use Rattle.mls_term.proofs.Metatheory.{Derives-instance}
use Rattle.mls_term.proofs.typing_laws.instances_derive.Goals as goal

pub returns : goal.returns
returns c = Derives-instance
