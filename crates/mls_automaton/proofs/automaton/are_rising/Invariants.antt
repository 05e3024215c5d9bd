use Rattle.mls_automaton.proofs.RisingLabels.{AreLess}
use Rattle.mls_automaton.proofs.automaton.are_rising.Given as goal

-- the fields so far rise
abbrev pub invariant-loop-i : goal.invariant-loop-i
invariant-loop-i l = AreLess l.fields l.i
