use Rattle.std.proofs.Common.{◌≡◌, ◌<◌, Contains, get_or, refl, sym, subst}
use Rattle.mls_solver.specs.steps.Numbers.{ByOne}
use Rattle.mls_solver.proofs.Marking.{Inserts-same, marked-first, marked-next, marked-last}
use Rattle.mls_solver.proofs.materialise.mark_all.Goals as goal

pub loop-x-init : goal.loop-x-init
loop-x-init c = marked-first c.args.numbers.now (λ x y. y ≡ x) c.args.marks.now

pub insert-requires : goal.insert-requires
insert-requires c = subst (λ n. get_or c.args.numbers.now c.loop-x.x-index 0 < n) (sym c.loop-x.invariant.limit) (c.requires c.loop-x.x-index 0 c.loop-x-test.true)

pub loop-x-preserved : goal.loop-x-preserved
loop-x-preserved c = marked-next c.args.numbers.now (λ x y. y ≡ x) c.args.marks.now c.loop-x.marks c.insert.new.self c.loop-x.x-index c.loop-x-test.true c.loop-x.invariant c.insert.ensures

pub returns : goal.returns
returns c =
    Inserts-same c.args.marks.now c.loop-x.marks (ByOne c.args.numbers.now (λ x y. y ≡ x)) (Contains c.args.numbers.now)
    (marked-last c.args.numbers.now (λ x y. y ≡ x) c.args.marks.now c.loop-x.marks c.loop-x.x-index c.loop-x-test.false c.loop-x.invariant)
    (λ y it. subst (Contains c.args.numbers.now) (sym it.2) it.1)
    (λ y it. (y, it, refl))
