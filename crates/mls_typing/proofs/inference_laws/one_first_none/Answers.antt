use Rattle.mls_typing.proofs.Answered.{one_first_none}
use Rattle.mls_typing.proofs.inference_laws.one_first_none.Goals as goal

pub returns : goal.returns
returns c = one_first_none
