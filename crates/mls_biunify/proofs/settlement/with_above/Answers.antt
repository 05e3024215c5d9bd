use Rattle.std.proofs.Common.{Contains, get_or}
use Rattle.mls_solver.specs.Rooms.{Holds}
use Rattle.mls_biunify.proofs.Collected.{collected-none, collected-more, collected-all, same_given}
use Rattle.mls_biunify.proofs.settlement.with_above.Goals as goal

pub loop-n-init : goal.loop-n-init
loop-n-init c = collected-none (λ n p. Holds c.args.relation.now p n) (Contains c.args.set) c.args.negatives.now

pub loop-n-preserved : goal.loop-n-preserved
loop-n-preserved c =
    collected-more (λ n p. Holds c.args.relation.now p n) (Contains c.args.set) (Contains c.loop-n.all) (Contains c.insert_all.new.set) c.args.negatives.now c.loop-n.n-index 0 c.loop-n-test.true c.loop-n.invariant
    (same_given (Contains c.insert_all.new.set) (Contains c.loop-n.all) (Contains c.above.result.now) (λ p. Holds c.args.relation.now p (get_or c.args.negatives.now c.loop-n.n-index 0)) c.in_ok-insert_all.ensures c.above.ensures.members)

pub returns : goal.returns
returns c = collected-all (λ n p. Holds c.args.relation.now p n) (Contains c.args.set) (Contains c.loop-n.all) c.args.negatives.now c.loop-n.n-index c.loop-n-test.false c.loop-n.invariant
