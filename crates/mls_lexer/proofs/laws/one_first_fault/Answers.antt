use Rattle.mls_lexer.proofs.Readings.{one_first_fault}
use Rattle.mls_lexer.proofs.laws.one_first_fault.Goals as goal

pub returns : goal.returns
returns c = one_first_fault
