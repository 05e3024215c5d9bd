use Rattle.mls_top.proofs.Operators.{operators_stand_first}
use Rattle.mls_top.proofs.laws.operators_stand_first.Goals as goal

pub returns : goal.returns
returns c = operators_stand_first
