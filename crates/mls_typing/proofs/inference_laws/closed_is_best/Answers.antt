use Rattle.mls_typing.proofs.Answered.{closed_is_best}
use Rattle.mls_typing.proofs.inference_laws.closed_is_best.Goals as goal

pub returns : goal.returns
returns c = closed_is_best
