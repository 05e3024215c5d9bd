use Rattle.std.proofs.Common.{[], sym, subst}
use Rattle.mls_pairs.specs.steps.Deleting.{IsHeldBy}
use Rattle.mls_pairs.specs.steps.Rounds.{AreThose, none}
use Rattle.mls_pairs.proofs.Rounding.{those_looked}
use Rattle.mls_pairs.proofs.deleting.held.Goals as goal

pub loop-pair-init : goal.loop-pair-init
loop-pair-init c = subst (AreThose (IsHeldBy c.args.table.now) []) (sym c.new-left.ensures) none

pub loop-pair-preserved : goal.loop-pair-preserved
loop-pair-preserved c =
    those_looked (IsHeldBy c.args.table.now) c.args.pairs.now c.loop-pair.left c.add_kept.new.left c.loop-pair.pair-index _ c.holds-is_kept.result c.loop-pair-test.true
    c.holds-is_kept.ensures c.in_ok-add_kept.ensures c.loop-pair.invariant
