use Rattle.mls_automaton.specs.steps.BookParts.{AreEdges}
use Rattle.mls_automaton.proofs.scheme_book.push_all_edges.Given as goal

-- the states so far
abbrev pub invariant-loop-s : goal.invariant-loop-s
invariant-loop-s l = AreEdges l.automaton l.s l.book l.edges.items
