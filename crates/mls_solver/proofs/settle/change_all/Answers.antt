use Rattle.std.proofs.Common.{subst, sym}
use Rattle.mls_solver.specs.declared.settle.Change.{Change}
use Rattle.mls_solver.specs.steps.Settling.{IsFitting, Makes}
use Rattle.mls_solver.proofs.Settling.{made-none, made-more, made-all, fitting-later}
use Rattle.mls_solver.proofs.settle.change_all.Goals as goal

pub loop-change-init : goal.loop-change-init
loop-change-init c = made-none c.args.a.now c.args.changes.now

pub make-requires : goal.make-requires
make-requires c =
    let d : Change = c.change-item.result in
    let fits : IsFitting c.args.a.now d = subst (IsFitting c.args.a.now) (sym c.change-item.is) (c.requires c.loop-change.change-index d c.loop-change-test.true) in
    fitting-later c.args.a.now c.loop-change.a c.loop-change.invariant.size c.loop-change.invariant.polarity d fits

pub loop-change-preserved : goal.loop-change-preserved
loop-change-preserved c =
    made-more c.args.a.now c.loop-change.a c.make.new.a c.args.changes.now c.loop-change.change-index c.change-item.result c.loop-change-test.true c.loop-change.invariant
    (subst (λ (d : Change). Makes d c.loop-change.a c.make.new.a) c.change-item.is c.in_ok-make.ensures)

pub returns : goal.returns
returns c = made-all c.args.a.now c.loop-change.a c.args.changes.now c.loop-change.change-index c.loop-change-test.false c.loop-change.invariant
