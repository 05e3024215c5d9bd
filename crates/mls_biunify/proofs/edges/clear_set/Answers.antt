use Rattle.std.proofs.Common.{◌<◌, ℕ, List, [], Contains, arith, subst}
use Rattle.mls_biunify.proofs.IndexedPairs.{set-cleared}
use Rattle.mls_biunify.proofs.edges.clear_set.Goals as goal

pub returns : goal.returns
returns c = set-cleared c.args.sets.now.items c.args.s c.clear.new.self c.requires
    (λ j it.
    let none : Contains [] j = subst (λ (xs : List ℕ). Contains xs j) c.clear.ensures it in
    let low : none.0 < 0 = none.1 in
    absurd (omega arith))
