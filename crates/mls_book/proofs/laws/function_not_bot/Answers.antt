use Rattle.mls_book.proofs.Heads.{function_not_bot}
use Rattle.mls_book.proofs.laws.function_not_bot.Goals as goal

pub returns : goal.returns
returns c = function_not_bot
