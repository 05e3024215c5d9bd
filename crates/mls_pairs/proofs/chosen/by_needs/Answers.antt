use Rattle.std.proofs.Common.{◌∙◌, List, subst}
use Rattle.mls_deriv.specs.declared.claim.Pair.{Pair}
use Rattle.mls_pairs.specs.steps.Reasons.{IsHeld}
use Rattle.mls_pairs.specs.steps.Rounds.{AreThose}
use Rattle.mls_pairs.proofs.Choosing.{needed_reason}
use Rattle.mls_pairs.proofs.chosen.by_needs.Goals as goal

pub returns : goal.returns
returns c =
    needed_reason c.args.table.now c.args.pair c.args.left.now c.args.right.now c.in_ok-reason.reason (c.by_nodes.ensures.0 c.if-not-by_nodes.false)
    (subst (λ (l : List Pair). AreThose (IsHeld c.args.table.now) l c.in_ok-reason.reason) (c.as_slice.ensures ∙ c.in_ok-needs.ensures) c.in_ok-reason.ensures)
