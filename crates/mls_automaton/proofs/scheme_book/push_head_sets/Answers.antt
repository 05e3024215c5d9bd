use Rattle.mls_automaton.proofs.BookSteps.{head-sets-both}
use Rattle.mls_automaton.proofs.scheme_book.push_head_sets.Goals as goal

pub returns : goal.returns
returns c =
    head-sets-both c.args.polarity c.args.first c.args.book.now c.push_function_sets.new.book c.push_record_sets.new.book c.args.head.now
    c.in_ok-push_function_sets.ensures c.in_ok-push_record_sets.ensures
