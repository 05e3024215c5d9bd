use Rattle.std.proofs.Common.{length}
use Rattle.mls_automaton.proofs.BookSteps.{record-ordered}
use Rattle.mls_automaton.proofs.scheme_book.push_state.Goals as goal

pub push-requires-4 : goal.push-requires-4
push-requires-4 c = record-ordered (length c.push-3.new.self) c.args.polarity c.in_ok-function.next c.args.head.now.fields c.in_ok-fields.fields c.in_ok-fields.ensures.node c.requires.labels
