-- A derivation moves to a longer book, to another book that holds the same values, to other variables, and to a smaller environment.
use Rattle.std.proofs.Common.{◌≡◌, ℕ, true, List}
use Rattle.mls_book.specs.declared.book.Node.{Node}
use Rattle.mls_book.specs.Books.{IsClosedBook}
use Rattle.mls_book.specs.Passes.{passes}
use Rattle.mls_book.specs.Schemes.{Scheme, IsScheme}
use Rattle.mls_book.proofs.LongerBooks.{Extends, Holds}
use Rattle.mls_book.proofs.Variables.{variables_of, has}
use Rattle.mls_book.proofs.Subsumption.{IsBelowAt, Subsumes-below}
use Rattle.mls_book.proofs.MovedSchemes.{moved, IsScheme-moved, Equivalent-moved_scheme, lengthened, IsScheme-lengthened, Equivalent-lengthened, renamed_scheme, IsScheme-renamed, Equivalent-renamed_scheme}
use Rattle.mls_term.specs.Terms.{TermTree}
use Rattle.mls_term.specs.Derivations.{Known, Derives, sub}

module _ (known : Known) (t : TermTree) (s : Scheme) (is : IsScheme s) (h : Derives known t s) where
  -- the same scheme over a longer book
  pub Derives-lengthened : (c : List Node) → Extends s.book c → Derives known t (lengthened c s)
  Derives-lengthened c more = sub s h (Equivalent-lengthened c s is more).0 (IsScheme-lengthened c s is more)

  -- over a book that holds the values of the scheme's book at other places
  pub Derives-moved : (place : ℕ → ℕ) (c : List Node) → IsClosedBook c → Holds s.book c place → Derives known t (moved place c s)
  Derives-moved place c closed holds = sub s h (Equivalent-moved_scheme place c s is closed holds).0 (IsScheme-moved place c s is closed holds)

  -- with other variables, where each variable of the scheme can be told back
  pub Derives-renamed : (variable back : ℕ → ℕ) → ((x : ℕ) → has x (variables_of s.book) ≡ true → back (variable x) ≡ x) → Derives known t (renamed_scheme variable s)
  Derives-renamed variable back undone = sub s h (Equivalent-renamed_scheme variable s is back undone).0 (IsScheme-renamed variable s is)

-- with a greater root and smaller types for the binders: so binders may be added at any type, and one at `top` may be dropped
pub Derives-below : (known : Known) (t : TermTree) (s u : Scheme) → Derives known t s → IsBelowAt (passes s.book) s u → IsScheme u → Derives known t u
Derives-below known t s u h below scheme = sub s h (Subsumes-below s u below) scheme
