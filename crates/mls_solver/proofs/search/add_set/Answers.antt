use Rattle.std.proofs.Common.{◌≡◌}
use Rattle.mls_solver.proofs.Relating.{Relates-more, Relates-all}
use Rattle.mls_solver.proofs.search.add_set.Goals as goal

pub loop-n-preserved : goal.loop-n-preserved
loop-n-preserved c =
    Relates-more c.args.found.now c.loop-n.found c.add.new.self c.args.negatives.now c.loop-n.n-index 0 (λ m p n. (p ≡ c.args.positive) × (n ≡ m))
    c.loop-n-test.true c.loop-n.invariant c.in_ok-add.ensures.pair

pub returns : goal.returns
returns c =
    Relates-all c.args.found.now c.loop-n.found c.args.negatives.now c.loop-n.n-index (λ m p n. (p ≡ c.args.positive) × (n ≡ m))
    c.loop-n-test.false c.loop-n.invariant
