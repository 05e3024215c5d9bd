use Rattle.std.proofs.Common.{◌≡◌, ℕ, List, Contains, get_or, subst, sym}
use Rattle.mls_solver.proofs.Relating.{element, Relates-more, Relates-all}
use Rattle.mls_solver.proofs.saturate.add_set.Goals as goal

pub add-requires-clause-row : goal.add-requires-clause-row
add-requires-clause-row c =
    subst (λ (rows : List ℕ). Contains rows c.args.positive) (sym c.loop-n.invariant.rows)
    (c.requires (get_or c.args.negatives.now c.loop-n.n-index 0) (element c.args.negatives.now c.loop-n.n-index c.loop-n-test.true)).0

pub add-requires-clause-column : goal.add-requires-clause-column
add-requires-clause-column c =
    subst (λ (columns : List ℕ). Contains columns (get_or c.args.negatives.now c.loop-n.n-index 0)) (sym c.loop-n.invariant.columns)
    (c.requires (get_or c.args.negatives.now c.loop-n.n-index 0) (element c.args.negatives.now c.loop-n.n-index c.loop-n-test.true)).1

pub loop-n-preserved : goal.loop-n-preserved
loop-n-preserved c =
    Relates-more c.args.room.now c.loop-n.room c.add.new.self c.args.negatives.now c.loop-n.n-index 0 (λ m p n. (p ≡ c.args.positive) × (n ≡ m))
    c.loop-n-test.true c.loop-n.invariant c.add.ensures

pub returns : goal.returns
returns c =
    Relates-all c.args.room.now c.loop-n.room c.args.negatives.now c.loop-n.n-index (λ m p n. (p ≡ c.args.positive) × (n ≡ m))
    c.loop-n-test.false c.loop-n.invariant
