use Rattle.mls_automaton.specs.steps.Searching.{left_of}
use Rattle.mls_biunify.specs.steps.Keeping.{found_of, walk_of}
use Rattle.mls_biunify.proofs.Walking.{IsSearchIn}
use Rattle.mls_biunify.proofs.reach.walk.Given as goal

abbrev pub invariant-loop-s : goal.invariant-loop-s
invariant-loop-s g l = IsSearchIn l.table l.roots (walk_of g.F.Found.members l.search)

abbrev pub decreases-loop-s : goal.decreases-loop-s
decreases-loop-s g l = left_of (found_of l.table.limit (walk_of g.F.Found.members l.search))
