use Rattle.mls_typenodes.proofs.PrintedLayouts.{read_is_deterministic}
use Rattle.mls_typenodes.proofs.laws.read_is_deterministic.Goals as goal

pub returns : goal.returns
returns c = read_is_deterministic
