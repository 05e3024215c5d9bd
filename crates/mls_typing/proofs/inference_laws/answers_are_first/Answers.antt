use Rattle.mls_typing.proofs.Answered.{answers_are_first}
use Rattle.mls_typing.proofs.inference_laws.answers_are_first.Goals as goal

pub returns : goal.returns
returns c = answers_are_first
