use Rattle.mls_deriv.proofs.ReadHeads.{behind_is}
use Rattle.mls_deriv.proofs.front.behind.Goals as goal

pub returns : goal.returns
returns c = behind_is c.args.text.now c.args.piece.now c.strip_prefix.result c.strip_prefix.ensures.cases
