use Rattle.mls_lexer.proofs.Writings.{tokens_are_terminals}
use Rattle.mls_lexer.proofs.laws.tokens_are_terminals.Goals as goal

pub returns : goal.returns
returns c = tokens_are_terminals
