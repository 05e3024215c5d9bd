use Rattle.mls_automaton.proofs.BookSteps.{edges-next}
use Rattle.mls_automaton.proofs.scheme_book.push_edges.Goals as goal

pub loop-partner-preserved : goal.loop-partner-preserved
loop-partner-preserved c =
    edges-next c.args.states c.args.polarity c.args.s c.args.book.now c.as_slice-partner-items.result.now c.loop-partner.partner-index c.loop-partner.book c.loop-partner.last.0
    c.push-in-loop-partner.new.self c.push_both.new.book c.in_ok-variable.variable c.in_ok-variable-2.variable.0 c.in_ok-last-2.last.0
    c.loop-partner-test.true c.loop-partner.invariant c.in_ok-variable.ensures c.in_ok-variable-2.ensures.ok c.in_ok-variable-2.ensures.number c.in_ok-last-2.ensures.ok c.in_ok-last-2.ensures.number
