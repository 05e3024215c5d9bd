use Rattle.mls_top.proofs.OneLines.{each_is_one_line}
use Rattle.mls_top.proofs.laws.each_is_one_line.Goals as goal

pub returns : goal.returns
returns c = each_is_one_line
