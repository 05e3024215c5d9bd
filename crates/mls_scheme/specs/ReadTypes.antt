-- The scheme of what the text of a type is read as.
use Rattle.std.specs.Prelude.{◌≡◌, ℕ, List}
use Rattle.mls_book.specs.Schemes as book
use Rattle.mls_book.specs.Schemes.{AreEquivalent}
use Rattle.mls_typetext.specs.declared.scheme.ReadScheme.{ReadScheme}
use Rattle.mls_typetext.specs.Schemes.{scheme_of}
use Rattle.mls_typetext.specs.Texts.{IsTypeText}
use Rattle.mls_automaton.specs.declared.automaton.Polarity.{Polarity}
use Rattle.mls_automaton.specs.declared.automaton.Polarity.TheVariants.{Positive}
use Rattle.mls_automaton.specs.declared.scheme.Scheme.{Scheme}
use Rattle.mls_automaton.specs.Schemes.{IsSchemeOf}
use Rattle.mls_scheme.specs.ReadAutomata.{IsPolarised, IsReadFrom}

-- each node has one polarity, which is that of its place, and the root is positive
pub record IsPolarisedRead (read : ReadScheme) : Type 0 where
  pub sign : ℕ → Polarity
  pub polarised : IsPolarised sign read.book
  pub root : sign read.root.0 ≡ Positive

-- the scheme is equivalent to what was read
abbrev pub IsEquivalentToRead : ReadScheme → Scheme → Type 0
IsEquivalentToRead read s = (u : book.Scheme) → IsSchemeOf s u → AreEquivalent u (scheme_of read)

-- the automaton of the scheme is read from the book of what was read, and both have the same root
pub record IsReadFromBook (read : ReadScheme) (s : Scheme) : Type 0 where
  pub automaton : IsReadFrom read.book read.root.0 s.automaton
  pub root : s.root.0 ≡ read.root.0

-- what a text is read as is polarised
abbrev pub ReadIsPolarised : Type 0
ReadIsPolarised = (text : List ℕ) (read : ReadScheme) → IsTypeText text read → IsPolarisedRead read
