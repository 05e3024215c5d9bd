use Rattle.mls_typing.proofs.Answered.{first_none_fails}
use Rattle.mls_typing.proofs.inference_laws.first_none_fails.Goals as goal

pub returns : goal.returns
returns c = first_none_fails
