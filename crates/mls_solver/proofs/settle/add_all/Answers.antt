use Rattle.mls_solver.proofs.Settling.{Self, grow-none, grow-more, grow-all, grow-self, grow-swap}
use Rattle.std.proofs.Common.{get_or}
use Rattle.mls_solver.proofs.settle.add_all.Goals as goal

pub loop-number-init : goal.loop-number-init
loop-number-init c = grow-none Self c.args.set.now c.args.numbers.now

pub loop-number-preserved : goal.loop-number-preserved
loop-number-preserved c =
    grow-more Self c.args.set.now c.args.numbers.now c.loop-number.number-index c.loop-number-test.true c.loop-number.set c.insert.new.self c.loop-number.invariant
    (grow-swap c.loop-number.set c.insert.new.self (get_or c.args.numbers.now c.loop-number.number-index 0) c.in_ok-insert.ensures.ok)

pub returns : goal.returns
returns c =
    grow-self c.args.set.now c.loop-number.set c.args.numbers.now
    (grow-all Self c.args.set.now c.args.numbers.now c.loop-number.number-index c.loop-number-test.false c.loop-number.set c.loop-number.invariant)
