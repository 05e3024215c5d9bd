-- Which texts are interfaces, what they declare, and which fault they have.
use Rattle.std.specs.Prelude.{◌≡◌, ℕ, List, [], ◌∷◌}
use Rattle.mls_lexer.specs.declared.token.LexFault.{LexFault}
use Rattle.mls_lexer.specs.declared.token.Token.{Token}
use Rattle.mls_lexer.specs.Tokens.{IsTokens, HasTokenFault, terminals, place_of}
use Rattle.mls_iface.specs.declared.interface.IfaceFault.{IfaceFault}
use Rattle.mls_iface.specs.declared.interface.Interface.{Interface}
use Rattle.mls_iface.specs.Declarations.{Declaration, spelled, vals_of}
use Rattle.mls_iface.specs.Faults.{of_tokens, HasGrammarFault, faults_of}

-- the text is an interface that declares this: its tokens are spelled by declarations, and nothing in them is a fault
pub record IsInterfaceText (text : List ℕ) (interface : Interface) : Type 0 where
  pub tokens : List Token
  pub has_tokens : IsTokens text tokens
  pub declarations : List Declaration
  pub spells : spelled declarations ≡ terminals text tokens
  pub no_fault : faults_of (place_of tokens) 0 [] declarations ≡ []
  pub declares : interface.vals ≡ vals_of (place_of tokens) 0 declarations

-- this is the first fault of the text: of its tokens, then of the grammar, then of its declarations
pub data HasInterfaceFault (text : List ℕ) : IfaceFault → Type 0 where
  in_tokens : (fault : LexFault) → HasTokenFault text fault → HasInterfaceFault text (of_tokens fault)
  in_grammar : (tokens : List Token) → IsTokens text tokens → (fault : IfaceFault)
      → HasGrammarFault text tokens 0 fault → HasInterfaceFault text fault
  -- the first of the faults of the declarations in the order of the text
  in_declarations : (tokens : List Token) → IsTokens text tokens
      → (declarations : List Declaration) → spelled declarations ≡ terminals text tokens
      → (fault : IfaceFault) (later : List IfaceFault) → faults_of (place_of tokens) 0 [] declarations ≡ fault ∷ later
      → HasInterfaceFault text fault
