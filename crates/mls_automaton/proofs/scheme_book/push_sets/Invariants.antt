use Rattle.std.proofs.Common.{length}
use Rattle.mls_automaton.specs.steps.BookParts.{AddsNoHead, AreSets, IsLonger}
use Rattle.mls_automaton.proofs.scheme_book.push_sets.Given as goal

-- the states so far
abbrev pub invariant-loop-s : goal.invariant-loop-s
invariant-loop-s l =
    AreSets l.automaton l.first (length l.fn.book) l.s l.book
    × IsLonger l.fn.book l.book
    × AddsNoHead l.fn.book l.book
