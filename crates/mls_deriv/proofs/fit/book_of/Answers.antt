use Rattle.std.proofs.Common.{◌++◌, reverse, sym, ap, ◌∙◌}
use Rattle.mls_deriv.proofs.FittingNodes.{ordered_next}
use Rattle.mls_deriv.proofs.fit.book_of.Goals as goal

pub push-requires : goal.push-requires
push-requires c =
    ordered_next c.args.nodes.items c.reverse.new.self.items c.loop-node.book c.pop.new.self.items c.in-Some.node c.requires c.reverse.ensures.items
    (ap (λ t. c.loop-node.book ++ reverse t) (sym c.in-Some.ensures.items) ∙ c.loop-node.invariant)
