use Rattle.mls_lexer.proofs.Readings.{one_reading}
use Rattle.mls_lexer.proofs.laws.one_reading.Goals as goal

pub returns : goal.returns
returns c = one_reading
