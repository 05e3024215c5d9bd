use Rattle.std.proofs.Common.{◌≡◌, ℕ, List, Contains, get_or, refl, subst, sym}
use Rattle.mls_solver.specs.steps.Growth.{BySome}
use Rattle.mls_solver.proofs.Relating.{element, Relates-more, Relates-all, Relates-same}
use Rattle.mls_solver.proofs.saturate.add_sets.Goals as goal

pub add_set-requires : goal.add_set-requires
add_set-requires c n it =
    let p : ℕ = get_or c.args.positives.now c.loop-p.p-index 0 in
    let in_range = c.requires p n (element c.args.positives.now c.loop-p.p-index c.loop-p-test.true) it in (
      subst (λ (rows : List ℕ). Contains rows p) (sym c.loop-p.invariant.rows) in_range.0,
      subst (λ (columns : List ℕ). Contains columns n) (sym c.loop-p.invariant.columns) in_range.1,
    )

pub loop-p-preserved : goal.loop-p-preserved
loop-p-preserved c =
    Relates-more c.args.room.now c.loop-p.room c.add_set.new.room c.args.positives.now c.loop-p.p-index 0 (λ q. BySome c.args.negatives.now (λ m p n. (p ≡ q) × (n ≡ m)))
    c.loop-p-test.true c.loop-p.invariant c.add_set.ensures

pub returns : goal.returns
returns c =
    Relates-same c.args.room.now c.loop-p.room (BySome c.args.positives.now (λ q. BySome c.args.negatives.now (λ m p n. (p ≡ q) × (n ≡ m)))) (λ p n. Contains c.args.positives.now p × Contains c.args.negatives.now n)
    (Relates-all c.args.room.now c.loop-p.room c.args.positives.now c.loop-p.p-index (λ q. BySome c.args.negatives.now (λ m p n. (p ≡ q) × (n ≡ m)))
    c.loop-p-test.false c.loop-p.invariant)
    (λ p n it. (
      subst (Contains c.args.positives.now) (sym it.2.2.0) it.1,
      subst (Contains c.args.negatives.now) (sym it.2.2.1) it.2.1,
    ))
    (λ p n it. (p, it.0, (n, it.1, (refl, refl))))
