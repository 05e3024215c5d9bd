-- How the grammar of an interface is gone through, declaration by declaration.
use Rattle.std.specs.Prelude.{◌≡◌, ◌≢◌, ℕ, List, drop, slice_get, Some, None}
use Rattle.mls_lexer.specs.declared.token.Kind.{Kind}
use Rattle.mls_lexer.specs.declared.token.Token.{Token}
use Rattle.mls_lexer.specs.Tokens.{terminals}
use Rattle.mls_iface.specs.declared.interface.IfaceFault.{IfaceFault}
use Rattle.mls_iface.specs.declared.interface.IfaceFault.TheVariants.{Unexpected, Ended}
use Rattle.mls_iface.specs.Declarations.{IsInterface}
use Rattle.mls_iface.specs.Faults.{HasGrammarFault}

-- from token `from` on the tokens are an interface where those from token k on are one, and have their fault
pub record LeadsTo (text : List ℕ) (tokens : List Token) (from k : ℕ) : Type 0 where
  pub whole : IsInterface (drop k (terminals text tokens)) → IsInterface (drop from (terminals text tokens))
  pub faulty : (fault : IfaceFault) → HasGrammarFault text tokens k fault → HasGrammarFault text tokens from fault

-- token i is there and is of this kind
abbrev pub IsThere : List Token → ℕ → Kind → Type 0
IsThere tokens i kind = (token : Token) × (slice_get tokens i ≡ Some token) × (token.kind ≡ kind)

-- it is not, and this is the fault
pub data IsMissing (tokens : List Token) (i : ℕ) (kind : Kind) : IfaceFault → Type 0 where
  other : (token : Token) → slice_get tokens i ≡ Some token → token.kind ≢ kind
      → IsMissing tokens i kind (Unexpected token.start token.kind)
  absent : slice_get tokens i ≡ None → IsMissing tokens i kind Ended
