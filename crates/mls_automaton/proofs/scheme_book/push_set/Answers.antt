use Rattle.mls_automaton.proofs.BookSteps.{set-next}
use Rattle.mls_automaton.proofs.scheme_book.push_set.Goals as goal

pub loop-s-preserved : goal.loop-s-preserved
loop-s-preserved c =
    set-next c.args.polarity c.args.first c.args.book.now c.as_slice-s-items.result.now c.loop-s.s-index c.loop-s.book c.loop-s.last.0 c.push_both.new.book c.in_ok-last-2.last.0 c.in_ok-place.place.0
    c.loop-s-test.true c.loop-s.invariant c.in_ok-place.ensures c.in_ok-last-2.ensures.ok c.in_ok-last-2.ensures.number
