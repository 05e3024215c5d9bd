use Rattle.std.proofs.Common.{◌≡◌, true, false}
use Rattle.mls_biunify.proofs.Copied.{flows-none}
use Rattle.mls_biunify.proofs.copy.copy_flows_at.Goals as goal

pub returns : goal.returns
returns c =
    flows-none c.args.table.now c.limit-limit.ensures.is c.args.n c.args.copy.now
    (λ it. let yes : c.is_state.result ≡ true = c.is_state.ensures.1 it in let f : c.is_state.result ≡ false = c.if-is_state.false in absurd (cc))
