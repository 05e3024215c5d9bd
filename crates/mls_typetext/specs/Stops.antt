-- How far a type goes among terminals, and the faults of texts.
use Rattle.std.specs.Prelude.{◌≡◌, ℕ, ◌+◌, ◌<◌, ◌≤◌, true, List, [], ◌∷◌, ◌++◌, length, take, drop, slice_get, Some}
use Rattle.mls_lexer.specs.declared.token.LexFault.{LexFault}
use Rattle.mls_lexer.specs.declared.token.LexFault.TheVariants as lex
use Rattle.mls_lexer.specs.declared.token.Token.{Token}
use Rattle.mls_lexer.specs.Tokens.{Terminal, IsTokens, HasTokenFault, terminals, place_of}
use Rattle.mls_typetext.specs.declared.scheme.TypeFault.{TypeFault}
use Rattle.mls_typetext.specs.declared.scheme.TypeFault.TheVariants.{BadByte, BigNumber, Unexpected, Ended, NotPolar}
use Rattle.mls_typetext.specs.declared.scheme.TypeFault.TheVariants.{Unguarded, Contravariant, DuplicateLabel, Memory}
use Rattle.mls_typetext.specs.Phrases.{Phrase, whole, yields}
use Rattle.mls_typetext.specs.Trees.{meaning}
use Rattle.mls_typetext.specs.Faults.{faults}

-- terminals are a type
abbrev pub IsType : List Terminal → Type 0
IsType ts = (p : Phrase whole) × (yields p [] ≡ ts)

-- terminals begin a type: with some more they are one
abbrev pub BeginsType : List Terminal → Type 0
BeginsType ts = (more : List Terminal) × IsType (ts ++ more)

-- the first n of these terminals begin a type, and no more of them do
pub record IsFurthest (ts : List Terminal) (n : ℕ) : Type 0 where
  pub within : n ≤ length ts
  pub begins : BeginsType (take n ts)
  pub no_further : (m : ℕ) → n < m → m ≤ length ts → BeginsType (take m ts) → ⊥

-- the type that begins at token `from` ends before token k, with which it cannot go on
pub record EndsBefore (text : List ℕ) (tokens : List Token) (from k : ℕ) : Type 0 where
  pub count : ℕ
  pub furthest : IsFurthest (drop from (terminals text tokens)) count
  pub is_type : IsType (take count (drop from (terminals text tokens)))
  pub place : k ≡ from + count

-- no type begins at token `from`, for this reason
pub data HasStop (text : List ℕ) (tokens : List Token) (from : ℕ) : TypeFault → Type 0 where
  -- the first token with which no type can go on
  stops_before : (count : ℕ) (token : Token) → IsFurthest (drop from (terminals text tokens)) count
      → (IsType (take count (drop from (terminals text tokens))) → ⊥)
      → slice_get tokens (from + count) ≡ Some token
      → HasStop text tokens from (Unexpected token.start token.kind)
  -- all can go on, and they are no type
  stops_at_end : BeginsType (drop from (terminals text tokens)) → (IsType (drop from (terminals text tokens)) → ⊥)
      → HasStop text tokens from Ended

-- the place of a fault in a text of this length
abbrev pub fault_place : ℕ → TypeFault → ℕ
fault_place length (BadByte at) = at
fault_place length (BigNumber at) = at
fault_place length (Unexpected at kind) = at
fault_place length Ended = length
fault_place length (NotPolar at) = at
fault_place length (Unguarded at) = at
fault_place length (Contravariant at) = at
fault_place length (DuplicateLabel at) = at
fault_place length Memory = 0

-- the place of a fault of a tree
abbrev pub tree_place : TypeFault → ℕ
tree_place = fault_place 0

-- a fault of tokens as one of types
abbrev pub of_tokens : LexFault → TypeFault
of_tokens (lex.BadByte at) = BadByte at
of_tokens (lex.BigNumber at) = BigNumber at
of_tokens lex.Memory = Memory

-- this is the first fault of the text: of its tokens, then of the grammar, then of its tree
pub data HasTypeFault (text : List ℕ) : TypeFault → Type 0 where
  in_tokens : (fault : LexFault) → HasTokenFault text fault → HasTypeFault text (of_tokens fault)
  -- the first token with which no type can go on
  before : (tokens : List Token) → IsTokens text tokens
      → (count : ℕ) (token : Token) → IsFurthest (terminals text tokens) count → slice_get tokens count ≡ Some token
      → HasTypeFault text (Unexpected token.start token.kind)
  -- all tokens can go on, and they are no type
  at_end : (tokens : List Token) → IsTokens text tokens
      → BeginsType (terminals text tokens) → (IsType (terminals text tokens) → ⊥)
      → HasTypeFault text Ended
  -- the first of the faults of the tree in the order of the text
  in_tree : (tokens : List Token) → IsTokens text tokens
      → (phrase : Phrase whole) → yields phrase [] ≡ terminals text tokens
      → (fault : TypeFault) (later : List TypeFault) → faults true [] 0 (meaning (place_of tokens) 0 phrase) ≡ fault
      ∷ later
      → HasTypeFault text fault
