use Rattle.mls_lexer.proofs.Readings.{no_fault_beside_tokens}
use Rattle.mls_lexer.proofs.laws.no_fault_beside_tokens.Goals as goal

pub returns : goal.returns
returns c = no_fault_beside_tokens
