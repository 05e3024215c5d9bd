use Rattle.std.proofs.Common.{◌≡◌, ◌-◌, length, arith, get_or, ap, sym, ◌∙◌}
use Rattle.mls_typetext.proofs.Laid.{node_in-last, node_in-past}
use Rattle.mls_typetext.proofs.lay_out.Layout.rec_node.Goals as goal

pub returns-then-k-count : goal.returns-then-k-count
returns-then-k-count c =
    let count : c.len-count.result ≡ length c.args.self.now.recs.items = omega arith in
    c.index.ensures ∙ (ap (λ n. get_or c.args.self.now.recs.items (n - 1 - c.args.k) c.index.result.now) count
    ∙ node_in-last c.args.self.now.recs.items c.args.k c.index.result.now (omega arith))

pub returns-else-k-count : goal.returns-else-k-count
returns-else-k-count c = sym (node_in-past c.args.self.now.recs.items c.args.k (omega arith))
