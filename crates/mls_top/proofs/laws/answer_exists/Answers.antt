use Rattle.mls_top.proofs.AnswersExist.{answer_exists}
use Rattle.mls_top.proofs.laws.answer_exists.Goals as goal

pub returns : goal.returns
returns c = answer_exists
