use Rattle.mls_print.proofs.OneLines.{printed_is_one_line}
use Rattle.mls_print.proofs.laws.printed_text_is_one_line.Goals as goal

pub returns : goal.returns
returns c = printed_is_one_line
