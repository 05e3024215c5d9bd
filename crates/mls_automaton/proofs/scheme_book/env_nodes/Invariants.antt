use Rattle.std.proofs.Common.{◌≡◌, map, take}
use Rattle.mls_automaton.specs.steps.BookParts.{env_node}
use Rattle.mls_automaton.proofs.scheme_book.env_nodes.Given as goal

-- the entries so far
abbrev pub invariant-loop-entry : goal.invariant-loop-entry
invariant-loop-entry l = l.entries.items ≡ map (env_node l.first) (take l.entry-index l.entry-items)
