use Rattle.std.proofs.Common.{◌≡◌, Contains, get_or}
use Rattle.mls_biunify.proofs.Collected.{collected-none, collected-more, collected-all, swapped, each_given}
use Rattle.mls_biunify.proofs.settlement.insert_all.Goals as goal

pub loop-s-init : goal.loop-s-init
loop-s-init c = collected-none (λ x y. y ≡ x) (Contains c.args.set.now) c.as_slice-s-items.result.now

pub loop-s-preserved : goal.loop-s-preserved
loop-s-preserved c =
    collected-more (λ x y. y ≡ x) (Contains c.args.set.now) (Contains c.loop-s.set) (Contains c.insert.new.self) c.as_slice-s-items.result.now c.loop-s.s-index 0 c.loop-s-test.true c.loop-s.invariant
    (swapped (Contains c.insert.new.self) (Contains c.loop-s.set) (get_or c.as_slice-s-items.result.now c.loop-s.s-index 0) c.in_ok-insert.ensures.ok)

pub returns : goal.returns
returns c =
    each_given (Contains c.args.set.now) (Contains c.loop-s.set) c.as_slice-s-items.result.now c.args.more.now c.as_slice-s-items.ensures.members
    (collected-all (λ x y. y ≡ x) (Contains c.args.set.now) (Contains c.loop-s.set) c.as_slice-s-items.result.now c.loop-s.s-index c.loop-s-test.false c.loop-s.invariant)
