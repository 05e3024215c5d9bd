use Rattle.std.proofs.Common.{◌≡◌, Contains, refl, subst, sym}
use Rattle.mls_solver.specs.steps.Growth.{BySome}
use Rattle.mls_solver.proofs.Relating.{Relates-more, Relates-all, Relates-same}
use Rattle.mls_solver.proofs.search.add_sets.Goals as goal

pub loop-p-preserved : goal.loop-p-preserved
loop-p-preserved c =
    Relates-more c.args.found.now c.loop-p.found c.add_set.new.found c.args.positives.now c.loop-p.p-index 0 (λ q. BySome c.args.negatives.now (λ m p n. (p ≡ q) × (n ≡ m)))
    c.loop-p-test.true c.loop-p.invariant c.in_ok-add_set.ensures

pub returns : goal.returns
returns c =
    Relates-same c.args.found.now c.loop-p.found (BySome c.args.positives.now (λ q. BySome c.args.negatives.now (λ m p n. (p ≡ q) × (n ≡ m)))) (λ p n. Contains c.args.positives.now p × Contains c.args.negatives.now n)
    (Relates-all c.args.found.now c.loop-p.found c.args.positives.now c.loop-p.p-index (λ q. BySome c.args.negatives.now (λ m p n. (p ≡ q) × (n ≡ m)))
    c.loop-p-test.false c.loop-p.invariant)
    (λ p n it. (
      subst (Contains c.args.positives.now) (sym it.2.2.0) it.1,
      subst (Contains c.args.negatives.now) (sym it.2.2.1) it.2.1,
    ))
    (λ p n it. (p, it.0, (n, it.1, (refl, refl))))
