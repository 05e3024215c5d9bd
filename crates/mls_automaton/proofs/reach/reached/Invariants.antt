use Rattle.mls_automaton.specs.steps.Searching.{IsSearch, left_of, search_of}
use Rattle.mls_automaton.proofs.reach.reached.Given as goal

abbrev pub invariant-loop-s : goal.invariant-loop-s
invariant-loop-s l = IsSearch l.scheme (search_of l.search)

abbrev pub decreases-loop-s : goal.decreases-loop-s
decreases-loop-s l = left_of (search_of l.search)
