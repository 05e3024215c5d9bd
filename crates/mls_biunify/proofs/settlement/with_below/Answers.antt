use Rattle.std.proofs.Common.{Contains, get_or}
use Rattle.mls_solver.specs.Rooms.{Holds}
use Rattle.mls_biunify.proofs.Collected.{collected-none, collected-more, collected-all, same_given}
use Rattle.mls_biunify.proofs.settlement.with_below.Goals as goal

pub loop-p-init : goal.loop-p-init
loop-p-init c = collected-none (λ p n. Holds c.args.relation.now p n) (Contains c.args.set) c.args.positives.now

pub loop-p-preserved : goal.loop-p-preserved
loop-p-preserved c =
    collected-more (λ p n. Holds c.args.relation.now p n) (Contains c.args.set) (Contains c.loop-p.all) (Contains c.insert_all.new.set) c.args.positives.now c.loop-p.p-index 0 c.loop-p-test.true c.loop-p.invariant
    (same_given (Contains c.insert_all.new.set) (Contains c.loop-p.all) (Contains c.below.result.now) (Holds c.args.relation.now (get_or c.args.positives.now c.loop-p.p-index 0)) c.in_ok-insert_all.ensures c.below.ensures.members)

pub returns : goal.returns
returns c = collected-all (λ p n. Holds c.args.relation.now p n) (Contains c.args.set) (Contains c.loop-p.all) c.args.positives.now c.loop-p.p-index c.loop-p-test.false c.loop-p.invariant
