use Rattle.std.proofs.Common.{◌≡◌, ◌++◌, length, take}
use Rattle.mls_automaton.specs.steps.BookParts.{fields_sets, place_at}
use Rattle.mls_automaton.proofs.scheme_book.push_fields_sets.Given as goal

-- the fields so far
abbrev pub invariant-loop-field : goal.invariant-loop-field
invariant-loop-field l = l.book ≡ l.fn.book ++ fields_sets l.polarity (place_at l.first) (length l.fn.book) (take l.field-index l.fields)
