use Rattle.mls_automaton.specs.steps.Keeping.{AreKeptTo}
use Rattle.mls_automaton.proofs.keep.keep.Given as goal

-- the marks so far
abbrev pub invariant-loop-s : goal.invariant-loop-s
invariant-loop-s l = AreKeptTo l.s l.marks l.places.items l.numbers.items
