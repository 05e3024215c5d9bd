use Rattle.std.proofs.Common.{◌∙◌, arith}
use Rattle.mls_scheme.proofs.CombinedAll.{one-head}
use Rattle.mls_scheme.proofs.heads.combine_at.Goals as goal

pub returns : goal.returns
returns c =
    one-head c.args.p c.args.heads.now c.args.i c.index-heads-i-2.result c.in_ok-head-2.head c.requires.labels c.requires.i (omega arith) (c.in_ok-head-2.ensures ∙ c.index-heads-i-2.is)
