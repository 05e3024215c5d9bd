use Rattle.std.proofs.Common.{take}
use Rattle.mls_automaton.specs.steps.Searching.{Grows, InEntries, search_of}
use Rattle.mls_automaton.proofs.reach.Search.mark_entries.Given as goal

-- those of the binders so far
abbrev pub invariant-loop-entry : goal.invariant-loop-entry
invariant-loop-entry l = Grows (search_of l.fn.self) (search_of l.self) (InEntries (take l.entry-index l.entries))
