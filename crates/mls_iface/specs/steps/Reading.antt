-- What a declaration is read as, where the tokens from its first on are an interface.
use Rattle.std.specs.Prelude.{◌≡◌, ℕ, ◌+◌, true, List, [], ◌∷◌, ◌++◌, drop, bytes_eq}
use Rattle.std.specs.List.{list_any}
use Rattle.std.specs.BTreeSet.{BTreeSet, contains}
use Rattle.std.specs.Ordering.{nat_cmp}
use Rattle.std.specs.Cmp.Lexicographic.{slice_cmp}
use Rattle.mls_lexer.specs.declared.token.Token.{Token}
use Rattle.mls_lexer.specs.Tokens.{terminals, place_of}
use Rattle.mls_typetext.specs.declared.scheme.ReadScheme.{ReadScheme}
use Rattle.mls_typetext.specs.declared.scheme.TypeFault.{TypeFault}
use Rattle.mls_typetext.specs.Trees.{meaning}
use Rattle.mls_typetext.specs.Faults.{faults}
use Rattle.mls_typetext.specs.Texts.{read_of}
use Rattle.mls_iface.specs.declared.interface.IfaceFault.{IfaceFault}
use Rattle.mls_iface.specs.declared.interface.Val.{Val}
use Rattle.mls_iface.specs.Declarations.{Declaration, spelled, behind, vals_of}
use Rattle.mls_iface.specs.Faults.{of_type, faults_of}

-- the first of these declarations, which begin at token k, has this name at this place
abbrev pub IsNamed : (tokens : List Token) (k : ℕ) → List Declaration → List ℕ → ℕ → Type 0
IsNamed tokens k [] x at = ⊥
IsNamed tokens k (d ∷ ds) x at = (x ≡ d.declared) × (at ≡ place_of tokens (k + 1))

-- the first of these declarations has a type that is read as this, and the others begin at token `end`
abbrev pub IsTyped : (text : List ℕ) (tokens : List Token) (k : ℕ) → List Declaration → ReadScheme → ℕ → Type 0
IsTyped text tokens k [] read end = ⊥
IsTyped text tokens k (d ∷ ds) read end =
    (read ≡ read_of (meaning (place_of tokens) (k + 3) d.type))
    × (faults true [] 0 (meaning (place_of tokens) (k + 3) d.type) ≡ [])
    × (end ≡ behind k d) × (spelled ds ≡ drop end (terminals text tokens))

-- the first of these declarations has a type with this first fault
abbrev pub IsFaulty : (tokens : List Token) (k : ℕ) → List Declaration → IfaceFault → Type 0
IsFaulty tokens k [] fault = ⊥
IsFaulty tokens k (d ∷ ds) fault =
    (first : TypeFault) × (later : List TypeFault)
    × (faults true [] 0 (meaning (place_of tokens) (k + 3) d.type) ≡ first ∷ later) × (fault ≡ of_type first)

-- the declarations before token k are read as these and have no fault, and these are their names
pub record AreRead (text : List ℕ) (tokens : List Token) (k : ℕ) (vals : List Val) (known : BTreeSet (List ℕ))
    : Type 0 where
  pub all : List Declaration
  pub spells : spelled all ≡ terminals text tokens
  pub earlier : List (List ℕ)
  pub left : List Declaration
  pub spells_left : spelled left ≡ drop k (terminals text tokens)
  pub declares : vals_of (place_of tokens) 0 all ≡ vals ++ vals_of (place_of tokens) k left
  pub faulty : faults_of (place_of tokens) 0 [] all ≡ faults_of (place_of tokens) k earlier left
  pub names : (x : List ℕ) → contains (slice_cmp nat_cmp) known x ≡ list_any (bytes_eq x) earlier
