use Rattle.mls_typetext.proofs.StopLaws.{one_end}
use Rattle.mls_typetext.proofs.laws.one_end.Goals as goal

pub returns : goal.returns
returns c = one_end
