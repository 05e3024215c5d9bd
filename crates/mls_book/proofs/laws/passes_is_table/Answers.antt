use Rattle.mls_book.proofs.OrderLaws.{passes_is_table}
use Rattle.mls_book.proofs.laws.passes_is_table.Goals as goal

pub returns : goal.returns
returns c = passes_is_table
