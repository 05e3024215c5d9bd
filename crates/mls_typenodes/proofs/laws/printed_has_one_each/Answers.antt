use Rattle.mls_typenodes.proofs.PrintedTypes.{printed_has_one}
use Rattle.mls_typenodes.proofs.laws.printed_has_one_each.Goals as goal

pub returns : goal.returns
returns c = printed_has_one
