use Rattle.mls_deriv.proofs.SpelledLines.{one_line}
use Rattle.mls_deriv.proofs.laws.one_line.Goals as goal

pub returns : goal.returns
returns c = one_line
