use Rattle.std.proofs.Common.{sym, subst}
use Rattle.mls_book.specs.declared.book.Node.TheVariants as node
use Rattle.mls_deriv.specs.Pairs.{Claims, exchanged}
use Rattle.mls_deriv.specs.inner.PairRules.{ByBoth}
use Rattle.mls_pairs.specs.PairLists.{pair_of}
use Rattle.mls_pairs.proofs.Needed.{two_there}
use Rattle.mls_pairs.proofs.chosen.by_both.Goals as goal

pub returns-in_ok-reason-in-Arrow-Arrow : goal.returns-in_ok-reason-in-Arrow-Arrow
returns-in_ok-reason-in-Arrow-Arrow c = λ put.
    let mode = c.args.pair.mode in
    let reason = c.in_ok-reason-in-Arrow-Arrow.reason in
    subst (λ n. ByBoth put (Claims reason) mode n c.args.right.now) (sym c.in-Arrow-Arrow.is-0)
    (subst (ByBoth put (Claims reason) mode (node.Arrow c.in-Arrow-Arrow.a c.in-Arrow-Arrow.b)) (sym c.in-Arrow-Arrow.is-1)
    (two_there (pair_of (exchanged mode) c.in-Arrow-Arrow.c.0 c.in-Arrow-Arrow.a.0) (pair_of mode c.in-Arrow-Arrow.b.0 c.in-Arrow-Arrow.d.0) reason c.in_ok-reason-in-Arrow-Arrow.ensures))
