use Rattle.mls_solver.proofs.Settling.{Self, grow-none, grow-more, grow-all, grow-self, grow-swap, inserted}
use Rattle.std.proofs.Common.{get_or}
use Rattle.mls_solver.proofs.settle.insert_all.Goals as goal

pub loop-number-init : goal.loop-number-init
loop-number-init c = grow-none Self c.args.set.now.keys c.args.numbers.now

pub loop-number-preserved : goal.loop-number-preserved
loop-number-preserved c =
    grow-more Self c.args.set.now.keys c.args.numbers.now c.loop-number.number-index c.loop-number-test.true c.loop-number.set.keys c.insert.new.self.keys c.loop-number.invariant
    (grow-swap c.loop-number.set.keys c.insert.new.self.keys (get_or c.args.numbers.now c.loop-number.number-index 0)
    (inserted c.loop-number.set c.insert.new.self (get_or c.args.numbers.now c.loop-number.number-index 0) c.in_ok-insert.ensures.updates))

pub returns : goal.returns
returns c =
    grow-self c.args.set.now.keys c.loop-number.set.keys c.args.numbers.now
    (grow-all Self c.args.set.now.keys c.args.numbers.now c.loop-number.number-index c.loop-number-test.false c.loop-number.set.keys c.loop-number.invariant)
