use Rattle.mls_typing.proofs.Answered.{best_allows_types}
use Rattle.mls_typing.proofs.inference_laws.best_allows_types.Goals as goal

pub returns : goal.returns
returns c = best_allows_types
