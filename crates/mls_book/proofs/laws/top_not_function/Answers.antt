use Rattle.mls_book.proofs.Heads.{top_not_function}
use Rattle.mls_book.proofs.laws.top_not_function.Goals as goal

pub returns : goal.returns
returns c = top_not_function
