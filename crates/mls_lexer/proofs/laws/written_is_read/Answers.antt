use Rattle.mls_lexer.proofs.Writings.{written_is_read}
use Rattle.mls_lexer.proofs.laws.written_is_read.Goals as goal

pub returns : goal.returns
returns c = written_is_read
