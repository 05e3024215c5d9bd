use Rattle.mls_deriv.proofs.OneBadLine.{one_reading}
use Rattle.mls_deriv.proofs.laws.one_reading.Goals as goal

pub returns : goal.returns
returns c = one_reading
