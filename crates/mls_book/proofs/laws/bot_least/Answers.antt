use Rattle.mls_book.proofs.OrderLaws.{bot_least}
use Rattle.mls_book.proofs.laws.bot_least.Goals as goal

pub returns : goal.returns
returns c = bot_least
