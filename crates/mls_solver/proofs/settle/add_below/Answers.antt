use Rattle.mls_solver.specs.Rooms.{Holds}
use Rattle.mls_solver.proofs.Settling.{grow-none, grow-more, grow-all, grow-then, extended}
use Rattle.mls_solver.proofs.settle.add_below.Goals as goal

pub loop-p-init : goal.loop-p-init
loop-p-init c = grow-none (λ p n. Holds c.args.found.now p n) c.args.members.now.items c.args.positives.now

pub loop-p-preserved : goal.loop-p-preserved
loop-p-preserved c =
    grow-more (λ p n. Holds c.args.found.now p n) c.args.members.now.items c.args.positives.now c.loop-p.p-index c.loop-p-test.true c.loop-p.members.items c.extend_from_slice.new.self.items c.loop-p.invariant
    (grow-then c.loop-p.members.items c.extend_from_slice.new.self.items c.below.result.now _ (extended c.loop-p.members.items c.extend_from_slice.new.self.items c.below.result.now c.in_ok-extend_from_slice.ensures.items) c.below.ensures)

pub returns : goal.returns
returns c = grow-all (λ p n. Holds c.args.found.now p n) c.args.members.now.items c.args.positives.now c.loop-p.p-index c.loop-p-test.false c.loop-p.members.items c.loop-p.invariant
