use Rattle.std.proofs.Common.{length}
use Rattle.mls_automaton.specs.steps.BookParts.{head_sets, place_at}
use Rattle.mls_automaton.proofs.BookLoops.{longer-more, no-head-more, sets-more}
use Rattle.mls_automaton.proofs.scheme_book.push_sets.Goals as goal

pub loop-s-preserved : goal.loop-s-preserved
loop-s-preserved c = (
  sets-more c.args.automaton.now c.args.first (length c.args.book.now) c.loop-s.s c.loop-s.book c.polarity-polarity.result c.head.result.now c.push_head_sets.new.book
      c.loop-s.invariant.0 c.polarity-polarity.ensures c.head.ensures c.in_ok-push_head_sets.ensures,
  longer-more c.args.book.now c.loop-s.book c.push_head_sets.new.book (head_sets c.polarity-polarity.result (place_at c.args.first) (length c.loop-s.book) c.head.result.now) c.loop-s.invariant.1 c.in_ok-push_head_sets.ensures,
  no-head-more c.args.book.now c.loop-s.book c.push_head_sets.new.book c.polarity-polarity.result (place_at c.args.first) (length c.loop-s.book) c.head.result.now c.loop-s.invariant.2 c.in_ok-push_head_sets.ensures,
)
