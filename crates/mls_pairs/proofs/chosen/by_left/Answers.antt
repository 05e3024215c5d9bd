use Rattle.std.proofs.Common.{[], ◌∷◌, ◌∙◌, sym, subst}
use Rattle.mls_deriv.specs.Pairs.{Claims}
use Rattle.mls_deriv.specs.inner.PairRules.{ByLeft}
use Rattle.mls_pairs.specs.PairLists.{pair_of}
use Rattle.mls_pairs.proofs.Needed.{two_there}
use Rattle.mls_pairs.proofs.chosen.by_left.Goals as goal

pub returns-in_ok-reason-in-Join : goal.returns-in_ok-reason-in-Join
returns-in_ok-reason-in-Join c = λ put.
    let pair = c.args.pair in
    let reason = c.in_ok-reason-in-Join.reason in
    subst (ByLeft put (Claims reason) pair.mode pair.right) (sym c.in-Join.is)
    (two_there (pair_of pair.mode c.in-Join.l.0 pair.right) (pair_of pair.mode c.in-Join.r.0 pair.right) reason
    (c.in_ok-reason-in-Join.ensures ∙ λ i. c.with_left.ensures i ∷ c.with_left-in-Join.ensures i ∷ []))
