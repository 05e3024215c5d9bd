use Rattle.mls_book.proofs.OrderLaws.{record_order}
use Rattle.mls_book.proofs.laws.record_order.Goals as goal

pub returns : goal.returns
returns c = record_order
