use Rattle.mls_term.proofs.Metatheory.{best_equivalent}
use Rattle.mls_term.proofs.typing_laws.best_are_equivalent.Goals as goal

pub returns : goal.returns
returns c = best_equivalent
