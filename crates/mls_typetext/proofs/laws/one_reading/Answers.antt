use Rattle.mls_typetext.proofs.ReadLaws.{one_reading}
use Rattle.mls_typetext.proofs.laws.one_reading.Goals as goal

pub returns : goal.returns
returns c = one_reading
