use Rattle.std.proofs.Common.{◌≡◌}
use Rattle.mls_solver.proofs.Relating.{Relates-more, Relates-all}
use Rattle.mls_solver.proofs.search.relate_all_to.Goals as goal

pub loop-p-preserved : goal.loop-p-preserved
loop-p-preserved c =
    Relates-more c.args.found.now c.loop-p.found c.add.new.self c.args.positives.now c.loop-p.p-index 0 (λ m p n. (p ≡ m) × (n ≡ c.args.negative))
    c.loop-p-test.true c.loop-p.invariant c.in_ok-add.ensures

pub returns : goal.returns
returns c =
    Relates-all c.args.found.now c.loop-p.found c.args.positives.now c.loop-p.p-index (λ m p n. (p ≡ m) × (n ≡ c.args.negative))
    c.loop-p-test.false c.loop-p.invariant
