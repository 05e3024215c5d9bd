use Rattle.std.proofs.Common.{◌<◌, sym, subst, get_or}
use Rattle.mls_solver.specs.Rooms.{Holds}
use Rattle.mls_solver.proofs.Marking.{marked-first, marked-next, marked-last}
use Rattle.mls_solver.proofs.materialise.mark_above_all.Goals as goal

pub loop-n-init : goal.loop-n-init
loop-n-init c = marked-first c.args.negatives.now (λ n p. Holds c.args.room.now p n) c.args.marks.now

pub mark_above-requires : goal.mark_above-requires
mark_above-requires c k held = subst (λ limit. k < limit) (sym c.loop-n.invariant.limit) (c.requires k (get_or c.args.negatives.now c.loop-n.n-index 0) held)

pub loop-n-preserved : goal.loop-n-preserved
loop-n-preserved c = marked-next c.args.negatives.now (λ n p. Holds c.args.room.now p n) c.args.marks.now c.loop-n.marks c.mark_above.new.marks c.loop-n.n-index c.loop-n-test.true c.loop-n.invariant c.mark_above.ensures

pub returns : goal.returns
returns c = marked-last c.args.negatives.now (λ n p. Holds c.args.room.now p n) c.args.marks.now c.loop-n.marks c.loop-n.n-index c.loop-n-test.false c.loop-n.invariant
