use Rattle.std.proofs.Common.{◌≡◌, ◌+◌, take}
use Rattle.mls_automaton.specs.steps.BookParts.{fields_from, fields_width}
use Rattle.mls_automaton.proofs.scheme_book.fields_from.Given as goal

-- the fields so far
abbrev pub invariant-loop-field : goal.invariant-loop-field
invariant-loop-field l = (l.placed ≡ fields_from l.fn.next (take l.field-index l.fields)) × (l.end ≡ l.fn.next + fields_width (take l.field-index l.fields))
