-- The faults of interfaces.
use Rattle.std.specs.Prelude.{◌≡◌, ℕ, suc, ◌+◌, true, if◌then◌else◌, List, [], ◌∷◌, ◌++◌, map, take, drop, slice_get}
use Rattle.std.specs.Prelude.{bytes_eq, Some}
use Rattle.std.specs.List.{list_any}
use Rattle.mls_lexer.specs.declared.token.LexFault.{LexFault}
use Rattle.mls_lexer.specs.declared.token.LexFault.TheVariants as lex
use Rattle.mls_lexer.specs.declared.token.Token.{Token}
use Rattle.mls_lexer.specs.Tokens.{terminals}
use Rattle.mls_typetext.specs.declared.scheme.TypeFault.{TypeFault}
use Rattle.mls_typetext.specs.declared.scheme.TypeFault.TheVariants as type
use Rattle.mls_typetext.specs.Trees.{meaning}
use Rattle.mls_typetext.specs.Faults.{faults}
use Rattle.mls_iface.specs.declared.interface.IfaceFault.{IfaceFault}
use Rattle.mls_iface.specs.declared.interface.IfaceFault.TheVariants.{BadByte, BigNumber, Unexpected, Ended, NotPolar}
use Rattle.mls_iface.specs.declared.interface.IfaceFault.TheVariants.{Unguarded, Contravariant, DuplicateLabel}
use Rattle.mls_iface.specs.declared.interface.IfaceFault.TheVariants.{DuplicateVal, Memory}
use Rattle.mls_iface.specs.Declarations.{Declaration, IsInterface, BeginsInterface, behind}

-- a fault of tokens as one of interfaces
abbrev pub of_tokens : LexFault → IfaceFault
of_tokens (lex.BadByte at) = BadByte at
of_tokens (lex.BigNumber at) = BigNumber at
of_tokens lex.Memory = Memory

-- a fault of types as one of interfaces
abbrev pub of_type : TypeFault → IfaceFault
of_type (type.BadByte at) = BadByte at
of_type (type.BigNumber at) = BigNumber at
of_type (type.Unexpected at k) = Unexpected at k
of_type type.Ended = Ended
of_type (type.NotPolar at) = NotPolar at
of_type (type.Unguarded at) = Unguarded at
of_type (type.Contravariant at) = Contravariant at
of_type (type.DuplicateLabel at) = DuplicateLabel at
of_type type.Memory = Memory

-- the place of a fault of declarations, and 0 for a fault that names none
abbrev pub declaration_place : IfaceFault → ℕ
declaration_place (BadByte at) = at
declaration_place (BigNumber at) = at
declaration_place (Unexpected at k) = at
declaration_place Ended = 0
declaration_place (NotPolar at) = at
declaration_place (Unguarded at) = at
declaration_place (Contravariant at) = at
declaration_place (DuplicateLabel at) = at
declaration_place (DuplicateVal at) = at
declaration_place Memory = 0

-- no interface begins at token `from` and has all tokens from there on, for this reason
pub data HasGrammarFault (text : List ℕ) (tokens : List Token) (from : ℕ) : IfaceFault → Type 0 where
  -- the first token with which no interface can go on
  before : (count : ℕ) (token : Token) → slice_get tokens (from + count) ≡ Some token
      → BeginsInterface (take count (drop from (terminals text tokens)))
      → (BeginsInterface (take (suc count) (drop from (terminals text tokens))) → ⊥)
      → HasGrammarFault text tokens from (Unexpected token.start token.kind)
  -- all can go on, and they are no interface
  at_end : BeginsInterface (drop from (terminals text tokens)) → (IsInterface (drop from (terminals text tokens)) → ⊥)
      → HasGrammarFault text tokens from Ended

-- All faults of declarations in the order of the text, the first of which begins at token k, where those before them
-- have these names: a name that an earlier declaration has, and the faults of the tree of a type.
unfoldable pub faults_of : (place : ℕ → ℕ) → ℕ → List (List ℕ) → List Declaration → List IfaceFault
faults_of place k earlier [] = []
faults_of place k earlier (d ∷ ds) =
    (if list_any (bytes_eq d.declared) earlier then DuplicateVal (place (k + 1)) ∷ [] else [])
    ++ map of_type (faults true [] 0 (meaning place (k + 3) d.type))
    ++ faults_of place (behind k d) (d.declared ∷ earlier) ds
