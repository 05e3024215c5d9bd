use Rattle.std.proofs.Common.{take}
use Rattle.mls_automaton.specs.steps.BookParts.{IsSetSoFar}
use Rattle.mls_automaton.proofs.scheme_book.push_set.Given as goal

-- the members so far
abbrev pub invariant-loop-s : goal.invariant-loop-s
invariant-loop-s l = IsSetSoFar l.polarity l.first l.fn.book (take l.s-index l.s-items) l.book l.last.0
