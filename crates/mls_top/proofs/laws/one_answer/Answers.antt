use Rattle.mls_top.proofs.OneAnswer.{one_answer}
use Rattle.mls_top.proofs.laws.one_answer.Goals as goal

pub returns : goal.returns
returns c = one_answer
