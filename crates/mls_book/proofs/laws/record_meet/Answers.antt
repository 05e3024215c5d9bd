use Rattle.mls_book.proofs.OrderLaws.{record_meet}
use Rattle.mls_book.proofs.laws.record_meet.Goals as goal

pub returns : goal.returns
returns c = record_meet
