use Rattle.mls_book.proofs.OrderLaws.{record_join}
use Rattle.mls_book.proofs.laws.record_join.Goals as goal

pub returns : goal.returns
returns c = record_join
