-- What the type that begins at a token is read as, and its first fault.
use Rattle.std.specs.Prelude.{◌≡◌, ℕ, true, List, [], ◌∷◌, take, drop}
use Rattle.mls_lexer.specs.declared.token.Token.{Token}
use Rattle.mls_lexer.specs.Tokens.{terminals, place_of}
use Rattle.mls_typetext.specs.declared.scheme.ReadScheme.{ReadScheme}
use Rattle.mls_typetext.specs.declared.scheme.TypeFault.{TypeFault}
use Rattle.mls_typetext.specs.Phrases.{Phrase, whole, yields}
use Rattle.mls_typetext.specs.Trees.{meaning}
use Rattle.mls_typetext.specs.Faults.{faults}
use Rattle.mls_typetext.specs.Texts.{read_of}
use Rattle.mls_typetext.specs.Stops.{EndsBefore, HasStop}

-- the type that begins at token `from` ends before token k, nothing in its tree is a fault, and it is read as this
pub record ReadsFrom (text : List ℕ) (tokens : List Token) (from : ℕ) (read : ReadScheme) (k : ℕ) : Type 0 where
  pub ends : EndsBefore text tokens from k
  pub phrase : Phrase whole
  pub spelled : yields phrase [] ≡ take ends.count (drop from (terminals text tokens))
  pub no_fault : faults true [] 0 (meaning (place_of tokens) from phrase) ≡ []
  pub read_as : read ≡ read_of (meaning (place_of tokens) from phrase)

-- this is the first fault of the type that begins at token `from`: of the grammar, then of its tree
pub data HasFaultFrom (text : List ℕ) (tokens : List Token) (from : ℕ) : TypeFault → Type 0 where
  stops : {fault : TypeFault} → HasStop text tokens from fault → HasFaultFrom text tokens from fault
  -- the first of the faults of the tree in the order of the text
  in_tree_from : (k : ℕ) (ends : EndsBefore text tokens from k)
      → (phrase : Phrase whole) → yields phrase [] ≡ take ends.count (drop from (terminals text tokens))
      → (fault : TypeFault) (later : List TypeFault) → faults true [] 0 (meaning (place_of tokens) from phrase) ≡ fault
      ∷ later
      → HasFaultFrom text tokens from fault
