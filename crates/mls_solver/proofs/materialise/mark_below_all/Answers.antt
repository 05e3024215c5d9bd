use Rattle.std.proofs.Common.{◌<◌, sym, subst, get_or}
use Rattle.mls_solver.specs.Rooms.{Holds}
use Rattle.mls_solver.proofs.Marking.{marked-first, marked-next, marked-last}
use Rattle.mls_solver.proofs.materialise.mark_below_all.Goals as goal

pub loop-p-init : goal.loop-p-init
loop-p-init c = marked-first c.args.positives.now (λ p n. Holds c.args.room.now p n) c.args.marks.now

pub mark_below-requires : goal.mark_below-requires
mark_below-requires c k held = subst (λ limit. k < limit) (sym c.loop-p.invariant.limit) (c.requires (get_or c.args.positives.now c.loop-p.p-index 0) k held)

pub loop-p-preserved : goal.loop-p-preserved
loop-p-preserved c = marked-next c.args.positives.now (λ p n. Holds c.args.room.now p n) c.args.marks.now c.loop-p.marks c.mark_below.new.marks c.loop-p.p-index c.loop-p-test.true c.loop-p.invariant c.mark_below.ensures

pub returns : goal.returns
returns c = marked-last c.args.positives.now (λ p n. Holds c.args.room.now p n) c.args.marks.now c.loop-p.marks c.loop-p.p-index c.loop-p-test.false c.loop-p.invariant
