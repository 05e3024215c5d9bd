use Rattle.mls_biunify.specs.steps.Keeping.{found_of, walk_of}
use Rattle.mls_automaton.proofs.Searches.{function-none, function-some}
use Rattle.mls_biunify.proofs.reach.Search.mark_function.Goals as goal

pub returns-in-None : goal.returns-in-None
returns-in-None g c = λ limit below. function-none (found_of limit (walk_of g.F.Found.members c.args.self.now)) c.args.function.now c.in-None.is

pub returns-in_ok-mark_arms-in-Some : goal.returns-in_ok-mark_arms-in-Some
returns-in_ok-mark_arms-in-Some g c = λ limit below.
    function-some (found_of limit (walk_of g.F.Found.members c.args.self.now)) (found_of limit (walk_of g.F.Found.members c.mark_arms.new.self)) c.args.function.now _ c.in-Some.is
    (c.in_ok-mark_arms-in-Some.ensures limit (λ j it. below j (_, c.in-Some.is, it)))
