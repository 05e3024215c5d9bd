use Rattle.std.proofs.Common.{◌+◌}
use Rattle.mls_book.specs.Books.{IsBook, IsClosedBook}
use Rattle.mls_layout.specs.LaidOut.{place_of, IsLonger}
use Rattle.mls_lines.specs.Puts.{AreJoins}
use Rattle.mls_lines.proofs.puts.global_puts.Given as goal

-- the variables so far
abbrev pub invariant-loop-variable : goal.invariant-loop-variable
invariant-loop-variable l = record {
  longer : IsLonger l.initial.book l.book;
  is_book : IsBook l.initial.book → IsBook l.book;
  closed : IsClosedBook l.initial.book → IsClosedBook l.book;
  joins : IsBook l.initial.book → AreJoins l.book (λ s. place_of l.places (l.first + s)) l.global.showing l.variable l.puts;
}
