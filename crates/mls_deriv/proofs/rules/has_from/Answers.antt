use Rattle.std.proofs.Common.{sym, ◌∙◌, ap}
use Rattle.mls_deriv.specs.Steps.{raised}
use Rattle.mls_deriv.proofs.CheckedRules.{nodes_more}
use Rattle.mls_deriv.proofs.rules.has_from.Goals as goal

pub loop-i-preserved : goal.loop-i-preserved
loop-i-preserved c =
    nodes_more c.args.book.now c.args.n c.args.other.now c.loop-i.i c.loop-i.invariant
    (sym c.node.ensures.node ∙ (c.is_raised.ensures.0 c.if-not-is_raised.false ∙ ap (raised c.args.n) c.node-in-loop-i.ensures.node))
