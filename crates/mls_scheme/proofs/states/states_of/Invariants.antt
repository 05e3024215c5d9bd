use Rattle.std.proofs.Common.{◌≡◌, length}
use Rattle.mls_scheme.specs.steps.States.{AreStatesTo}
use Rattle.mls_scheme.proofs.states.states_of.Given as goal

-- the states so far
abbrev pub invariant-loop-i : goal.invariant-loop-i
invariant-loop-i l = (l.visits.limit ≡ length l.book) × AreStatesTo l.i l.book l.signs l.automaton
