use Rattle.std.proofs.Common.{get_or, length, refl}
use Rattle.mls_automaton.specs.steps.BookParts.{state_nodes}
use Rattle.mls_automaton.proofs.BookLoops.{longer-more, next-more, states-more}
use Rattle.mls_automaton.proofs.scheme_book.push_states.Goals as goal

pub loop-s-preserved : goal.loop-s-preserved
loop-s-preserved c = (
  states-more c.args.automaton.now c.args.edges.now (length c.args.book.now) c.args.sets c.loop-s.s c.loop-s.book c.polarity-polarity.result c.head-head.result.now (get_or c.args.edges.now c.loop-s.s 0) c.loop-s.next c.push_state.new.book
      c.loop-s.invariant.0 c.loop-s.invariant.2 c.polarity-polarity.ensures c.head-head.ensures refl c.in_ok-next.ensures.ok,
  longer-more c.args.book.now c.loop-s.book c.push_state.new.book (state_nodes c.polarity-polarity.result (get_or c.args.edges.now c.loop-s.s 0) (length c.loop-s.book) c.loop-s.next c.head-head.result.now) c.loop-s.invariant.1 c.in_ok-next.ensures.ok,
  next-more c.args.automaton.now c.args.sets c.loop-s.s c.loop-s.next c.in_ok-next.next c.head-head.result.now c.loop-s.invariant.2 c.head-head.ensures c.in_ok-next.ensures.next,
)
