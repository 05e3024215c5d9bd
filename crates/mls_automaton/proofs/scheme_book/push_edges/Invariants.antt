use Rattle.std.proofs.Common.{take}
use Rattle.mls_automaton.specs.steps.BookParts.{IsEdgesSoFar}
use Rattle.mls_automaton.proofs.scheme_book.push_edges.Given as goal

-- the partners so far
abbrev pub invariant-loop-partner : goal.invariant-loop-partner
invariant-loop-partner l = IsEdgesSoFar l.states l.polarity l.s l.fn.book (take l.partner-index l.partner-items) l.book l.last.0
