use Rattle.mls_book.proofs.OrderLaws.{function_meet}
use Rattle.mls_book.proofs.laws.function_meet.Goals as goal

pub returns : goal.returns
returns c = function_meet
