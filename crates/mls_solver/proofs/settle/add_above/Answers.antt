use Rattle.mls_solver.specs.Rooms.{Holds}
use Rattle.mls_solver.proofs.Settling.{grow-none, grow-more, grow-all, grow-then, extended}
use Rattle.mls_solver.proofs.settle.add_above.Goals as goal

pub loop-n-init : goal.loop-n-init
loop-n-init c = grow-none (λ n p. Holds c.args.found.now p n) c.args.members.now.items c.args.negatives.now

pub loop-n-preserved : goal.loop-n-preserved
loop-n-preserved c =
    grow-more (λ n p. Holds c.args.found.now p n) c.args.members.now.items c.args.negatives.now c.loop-n.n-index c.loop-n-test.true c.loop-n.members.items c.extend_from_slice.new.self.items c.loop-n.invariant
    (grow-then c.loop-n.members.items c.extend_from_slice.new.self.items c.above.result.now _ (extended c.loop-n.members.items c.extend_from_slice.new.self.items c.above.result.now c.in_ok-extend_from_slice.ensures.items) c.above.ensures)

pub returns : goal.returns
returns c = grow-all (λ n p. Holds c.args.found.now p n) c.args.members.now.items c.args.negatives.now c.loop-n.n-index c.loop-n-test.false c.loop-n.members.items c.loop-n.invariant
