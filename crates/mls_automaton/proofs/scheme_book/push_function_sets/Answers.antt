use Rattle.mls_automaton.proofs.BookSteps.{function-sets-both}
use Rattle.mls_automaton.proofs.scheme_book.push_function_sets.Goals as goal

pub returns-in_ok-push_set-in-Some-2 : goal.returns-in_ok-push_set-in-Some-2
returns-in_ok-push_set-in-Some-2 c =
    function-sets-both c.args.polarity c.args.first c.args.book.now c.push_set.new.book c.push_set-in-Some.new.book c.args.function.now c.in-Some.arms c.opposite.result
    c.in-Some.is c.opposite.ensures c.in_ok-push_set-in-Some.ensures c.in_ok-push_set-in-Some-2.ensures
