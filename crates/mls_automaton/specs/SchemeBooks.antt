-- The scheme that a book with a root and nodes of binders gives.
use Rattle.std.specs.Prelude.{ℕ, map}
use Rattle.std.specs.FinMap as finmap
use Rattle.mls_book.specs.Schemes as book
use Rattle.mls_automaton.specs.declared.scheme_book.EnvNode.{EnvNode}
use Rattle.mls_automaton.specs.declared.scheme_book.SchemeBook.{SchemeBook}

abbrev pub binder_node : EnvNode → ℕ × ℕ
binder_node entry = (entry.binder, entry.node.0)

abbrev pub scheme_in : SchemeBook → book.Scheme
scheme_in b = record { book = b.book; env = finmap.from_entries (map binder_node b.env); root = b.root.0 }
