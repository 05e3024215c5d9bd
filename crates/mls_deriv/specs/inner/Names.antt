-- Names whose nodes stand in a book.
use Rattle.std.specs.Prelude.{ℕ, List, slice_get, Option, IsTrue}
use Rattle.std.specs.BTreeSet.{BTreeSet, contains}
use Rattle.mls_book.specs.declared.book.Node.{Node}
use Rattle.mls_typetext.specs.declared.scheme.ReadScheme.{ReadScheme}
use Rattle.mls_deriv.specs.Steps.{HasFrom}
use Rattle.mls_deriv.specs.inner.Rules.{Given}
use Rattle.mls_deriv.specs.inner.Tables.{numbers_cmp}

-- there is a scheme, and its nodes stand in the book from this one on
abbrev pub StandsAt : List Node → ℕ → Option ReadScheme → Type 0
StandsAt book n found = Given found (λ read. HasFrom book n read.book)

-- the nodes of each of these names stand in the book from the node beside it on
abbrev pub DoStand : List Node → List ReadScheme → BTreeSet (ℕ × ℕ) → Type 0
DoStand book known names = (g n : ℕ) → IsTrue (contains numbers_cmp names (g, n)) → StandsAt book n (slice_get known g)
