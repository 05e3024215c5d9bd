use Rattle.std.proofs.Common.{[], ◌∷◌, ◌∙◌, sym, subst}
use Rattle.mls_deriv.specs.Pairs.{Claims}
use Rattle.mls_deriv.specs.inner.PairRules.{ByRight}
use Rattle.mls_pairs.specs.PairLists.{pair_of}
use Rattle.mls_pairs.proofs.Needed.{two_there}
use Rattle.mls_pairs.proofs.chosen.by_right.Goals as goal

pub returns-in_ok-reason-in-Meet : goal.returns-in_ok-reason-in-Meet
returns-in_ok-reason-in-Meet c = λ put.
    let pair = c.args.pair in
    let reason = c.in_ok-reason-in-Meet.reason in
    subst (ByRight put (Claims reason) pair.mode pair.left) (sym c.in-Meet.is)
    (two_there (pair_of pair.mode pair.left c.in-Meet.l.0) (pair_of pair.mode pair.left c.in-Meet.r.0) reason
    (c.in_ok-reason-in-Meet.ensures ∙ λ i. c.with_right.ensures i ∷ c.with_right-in-Meet.ensures i ∷ []))
