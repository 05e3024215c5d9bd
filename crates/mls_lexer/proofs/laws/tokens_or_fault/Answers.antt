use Rattle.mls_lexer.proofs.Total.{tokens_or_fault}
use Rattle.mls_lexer.proofs.laws.tokens_or_fault.Goals as goal

pub returns : goal.returns
returns c = tokens_or_fault
