-- What is known of the names of the environment, each of which means what was read.
use Rattle.std.specs.Prelude.{◌≡◌, ℕ, List, [], slice_get, Some}
use Rattle.std.specs.BTreeMap.{BTreeMap, get}
use Rattle.std.specs.Ordering.{nat_cmp}
use Rattle.mls_book.specs.declared.book.Node.{Node}
use Rattle.mls_automaton.specs.declared.scheme.Scheme.{Scheme}
use Rattle.mls_typetext.specs.declared.scheme.ReadScheme.{ReadScheme}
use Rattle.mls_typetext.specs.Laws.{IsReadScheme}
use Rattle.mls_scheme.specs.ReadTypes.{IsEquivalentToRead, IsReadFromBook}
use Rattle.mls_parts.specs.PosedParts.{IsKnownType}
use Rattle.mls_parts.specs.Posings.{known_in}
use Rattle.mls_lines.specs.declared.known.GlobalAt.{GlobalAt}
use Rattle.mls_lines.specs.Globals.{IsGlobalAt}

-- a type without binders, read from the book of what the name means
pub record IsNameType (reads : List ReadScheme) (g : ℕ) (s : Scheme) : Type 0 where
  pub known : IsKnownType [] s
  pub read : ReadScheme
  pub is : slice_get reads g ≡ Some read
  pub from : IsReadFromBook read s
  pub equivalent : IsEquivalentToRead read s

abbrev pub AreNameTypes : List ReadScheme → BTreeMap ℕ Scheme → Type 0
AreNameTypes reads globals = (g : ℕ) (s : Scheme) → known_in globals g ≡ Some s → IsNameType reads g s

-- the type of a name stands in the book: that of what the name means
pub record IsGlobalOf (book : List Node) (reads : List ReadScheme) (g : ℕ) (global : GlobalAt) : Type 0 where
  pub read : ReadScheme
  pub is : slice_get reads g ≡ Some read
  pub good : IsReadScheme read
  pub at : IsGlobalAt book read global

abbrev pub AreGlobalsOf : List Node → List ReadScheme → BTreeMap ℕ GlobalAt → Type 0
AreGlobalsOf book reads globals =
    (g : ℕ) (global : GlobalAt) → get nat_cmp globals g ≡ Some global → IsGlobalOf book reads g global
