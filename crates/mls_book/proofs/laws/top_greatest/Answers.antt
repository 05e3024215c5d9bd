use Rattle.mls_book.proofs.OrderLaws.{top_greatest}
use Rattle.mls_book.proofs.laws.top_greatest.Goals as goal

pub returns : goal.returns
returns c = top_greatest
