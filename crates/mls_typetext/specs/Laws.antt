-- Laws of the texts of types.
use Rattle.std.specs.Prelude.{◌≡◌, ◌⊎◌, ℕ, ◌<◌, ◌≤◌, true, List, [], ◌∷◌, length, take, drop, All}
use Rattle.mls_book.specs.declared.book.Node.TheVariants.{Var}
use Rattle.mls_book.specs.Books.{IsClosedBook, node_at}
use Rattle.mls_book.specs.Predicates.{Predicate}
use Rattle.mls_book.specs.Passes.{passes_by}
use Rattle.mls_lexer.specs.declared.token.Token.{Token}
use Rattle.mls_lexer.specs.Tokens.{IsTokens, terminals}
use Rattle.mls_typetext.specs.declared.scheme.ReadScheme.{ReadScheme}
use Rattle.mls_typetext.specs.declared.scheme.TypeFault.{TypeFault}
use Rattle.mls_typetext.specs.Phrases.{Phrase, whole, yields}
use Rattle.mls_typetext.specs.Faults.{faults}
use Rattle.mls_typetext.specs.Stops.{EndsBefore, HasStop, HasTypeFault, fault_place, tree_place}
use Rattle.mls_typetext.specs.Trees.{TypeTree, meaning}
use Rattle.mls_typetext.specs.Books.{Ty, type_of}
use Rattle.mls_typetext.specs.Values.{HasValue}
use Rattle.mls_lexer.specs.Tokens.{place_of}
use Rattle.mls_typetext.specs.Texts.{read_of, IsTypeOf, IsTypeText}
use Rattle.mls_typetext.specs.TextsFrom.{ReadsFrom, HasFaultFrom}

-- the book is closed, its root is there, and its variables are below their number
pub record IsReadScheme (read : ReadScheme) : Type 0 where
  pub book : IsClosedBook read.book
  pub root : read.root.0 < length read.book
  pub variables : (i x : ℕ) → i < length read.book → node_at read.book i ≡ Var x → x < read.vars

-- what a text is read as is such
abbrev pub ReadIsClosed : Type 0
ReadIsClosed = (text : List ℕ) (read : ReadScheme) → IsTypeText text read → IsReadScheme read

-- whatever the variables pass, the root passes what the type passes, which is one predicate
pub record HasOneValue (variable : ℕ → Predicate) (type : Ty) (f : Predicate) : Type 0 where
  pub value : HasValue variable [] type f
  pub one : (other : Predicate) → HasValue variable [] type other → other ≡ f

abbrev pub ReadHasValue : Type 0
ReadHasValue =
    (text : List ℕ) (tree : TypeTree) → IsTypeOf text tree → (variable : ℕ → Predicate)
    → HasOneValue variable (type_of tree) (passes_by variable (read_of tree).book (read_of tree).root.0)

-- a text is read in one way at most
abbrev pub OneReading : Type 0
OneReading = (text : List ℕ) (read other : ReadScheme) → IsTypeText text read → IsTypeText text other → read ≡ other

-- what is read has no fault
abbrev pub NoFaultBesideReading : Type 0
NoFaultBesideReading =
    (text : List ℕ) (read : ReadScheme) (fault : TypeFault) → IsTypeText text read → HasTypeFault text fault → ⊥

-- a text has one first fault
abbrev pub OneFirstFault : Type 0
OneFirstFault =
    (text : List ℕ) (fault other : TypeFault) → HasTypeFault text fault → HasTypeFault text other → fault ≡ other

-- every text is read or has a fault
abbrev pub ReadingOrFault : Type 0
ReadingOrFault =
    (text : List ℕ) → ((read : ReadScheme) × IsTypeText text read) ⊎ ((fault : TypeFault) × HasTypeFault text fault)

-- of the faults of a tree, the first in the order of the text has the least place
abbrev pub FirstIsLeast : Type 0
FirstIsLeast =
    (text : List ℕ) (tokens : List Token) (from count : ℕ) (phrase : Phrase whole) (fault : TypeFault)
    (later : List TypeFault)
    → IsTokens text tokens → yields phrase [] ≡ take count (drop from (terminals text tokens))
    → faults true [] 0 (meaning (place_of tokens) from phrase) ≡ fault ∷ later
    → All (λ other. tree_place fault ≤ tree_place other) later

-- from a token on a type is read in one way, or it has one first fault; what is read is closed
pub record HasOneReading (text : List ℕ) (tokens : List Token) (from : ℕ) : Type 0 where
  pub one_reading : (read other : ReadScheme) (k l : ℕ) → ReadsFrom text tokens from read k
      → ReadsFrom text tokens from other l → (read ≡ other) × (k ≡ l)
  pub no_fault : (read : ReadScheme) (k : ℕ) (fault : TypeFault) → ReadsFrom text tokens from read k
      → HasFaultFrom text tokens from fault → ⊥
  pub one_fault : (fault other : TypeFault) → HasFaultFrom text tokens from fault → HasFaultFrom text tokens from other
      → fault ≡ other
  pub closed : (read : ReadScheme) (k : ℕ) → ReadsFrom text tokens from read k → IsReadScheme read
  pub reading_or_fault : ((read : ReadScheme) × (k : ℕ) × ReadsFrom text tokens from read k)
      ⊎ ((fault : TypeFault) × HasFaultFrom text tokens from fault)

abbrev pub OneReadingFrom : Type 0
OneReadingFrom =
    (text : List ℕ) (tokens : List Token) (from : ℕ) → from ≤ length tokens → HasOneReading text tokens from

-- from a token on a type ends before one token, or it stops for one reason
pub record HasOneEnd (text : List ℕ) (tokens : List Token) (from : ℕ) : Type 0 where
  pub one_end : (k l : ℕ) → EndsBefore text tokens from k → EndsBefore text tokens from l → k ≡ l
  pub no_stop : (k : ℕ) (fault : TypeFault) → EndsBefore text tokens from k → HasStop text tokens from fault → ⊥
  pub one_stop : (fault other : TypeFault) → HasStop text tokens from fault → HasStop text tokens from other
      → fault ≡ other

abbrev pub OneEnd : Type 0
OneEnd = (text : List ℕ) (tokens : List Token) (from : ℕ) → HasOneEnd text tokens from

-- the first fault of a text, or of the type that begins at a token of it, stands in the text, or at its end
pub record IsInText (text : List ℕ) : Type 0 where
  pub of_text : (fault : TypeFault) → HasTypeFault text fault → fault_place (length text) fault ≤ length text
  pub from_token : (tokens : List Token) (from : ℕ) (fault : TypeFault) → IsTokens text tokens
      → HasFaultFrom text tokens from fault → fault_place (length text) fault ≤ length text

abbrev pub FaultIsInText : Type 0
FaultIsInText = (text : List ℕ) → IsInText text
