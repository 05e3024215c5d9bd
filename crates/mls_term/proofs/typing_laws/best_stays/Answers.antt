use Rattle.mls_term.proofs.Metatheory.{best_more_general}
use Rattle.mls_term.proofs.typing_laws.best_stays.Goals as goal

pub returns : goal.returns
returns c = best_more_general
