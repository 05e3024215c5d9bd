use Rattle.std.proofs.Common.{◌≡◌, ◌+◌, length}
use Rattle.mls_automaton.specs.steps.BookParts.{AreStates, IsLonger, width_to}
use Rattle.mls_automaton.proofs.scheme_book.push_states.Given as goal

-- the states so far
abbrev pub invariant-loop-s : goal.invariant-loop-s
invariant-loop-s l =
    AreStates l.automaton l.edges (length l.fn.book) l.sets l.s l.book
    × IsLonger l.fn.book l.book
    × (l.next ≡ l.sets + width_to l.automaton l.s)
