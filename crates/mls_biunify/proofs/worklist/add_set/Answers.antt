use Rattle.std.proofs.Common.{◌<◌, ◌≡◌, get_or, subst, sym}
use Rattle.mls_solver.proofs.Relating.{element, Relates-more, Relates-all}
use Rattle.mls_biunify.proofs.worklist.add_set.Goals as goal

pub add-requires-clause-positive : goal.add-requires-clause-positive
add-requires-clause-positive c =
    subst (λ k. c.args.positive < k) (sym c.loop-n.invariant.positives)
    (c.requires (get_or c.args.negatives.now c.loop-n.n-index 0) (element c.args.negatives.now c.loop-n.n-index c.loop-n-test.true)).0

pub add-requires-clause-negative : goal.add-requires-clause-negative
add-requires-clause-negative c =
    subst (λ k. get_or c.args.negatives.now c.loop-n.n-index 0 < k) (sym c.loop-n.invariant.negatives)
    (c.requires (get_or c.args.negatives.now c.loop-n.n-index 0) (element c.args.negatives.now c.loop-n.n-index c.loop-n-test.true)).1

pub loop-n-preserved : goal.loop-n-preserved
loop-n-preserved c =
    Relates-more c.args.room.now c.loop-n.room c.add.new.self c.args.negatives.now c.loop-n.n-index 0 (λ m p n. (p ≡ c.args.positive) × (n ≡ m))
    c.loop-n-test.true c.loop-n.invariant c.in_ok-add.ensures

pub returns : goal.returns
returns c =
    Relates-all c.args.room.now c.loop-n.room c.args.negatives.now c.loop-n.n-index (λ m p n. (p ≡ c.args.positive) × (n ≡ m))
    c.loop-n-test.false c.loop-n.invariant
