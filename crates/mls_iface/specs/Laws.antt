-- Laws of the texts of interfaces, of signatures and of matching.
use Rattle.std.specs.Prelude.{◌≡◌, ◌⊎◌, ℕ, ◌≤◌, List, [], ◌∷◌, length, map, All}
use Rattle.mls_lexer.specs.declared.token.Token.{Token}
use Rattle.mls_lexer.specs.Tokens.{IsTokens, terminals, place_of}
use Rattle.mls_iface.specs.declared.interface.IfaceFault.{IfaceFault}
use Rattle.mls_iface.specs.declared.interface.Interface.{Interface}
use Rattle.mls_iface.specs.declared.interface.Val.{Val}
use Rattle.mls_iface.specs.declared.matching.MatchAnswer.{MatchAnswer}
use Rattle.mls_iface.specs.declared.matching.MatchAnswer.TheVariants as answer
use Rattle.mls_iface.specs.declared.signature.SigEntry.{SigEntry}
use Rattle.mls_iface.specs.Declarations.{Declaration, spelled}
use Rattle.mls_iface.specs.Faults.{declaration_place, faults_of}
use Rattle.mls_iface.specs.FaultPlaces.{fault_place}
use Rattle.mls_iface.specs.Interfaces.{IsInterfaceText, HasInterfaceFault}
use Rattle.mls_iface.specs.Signatures.{AreEntries, signature_text}
use Rattle.mls_iface.specs.Matches.{AreDeclarations, IsMatchAnswer}

-- a text is one interface at most
abbrev pub OneInterface : Type 0
OneInterface =
    (text : List ℕ) (interface other : Interface) → IsInterfaceText text interface → IsInterfaceText text other
    → interface.vals ≡ other.vals

-- an interface has no fault
abbrev pub NoFaultBesideInterface : Type 0
NoFaultBesideInterface =
    (text : List ℕ) (interface : Interface) (fault : IfaceFault) → IsInterfaceText text interface
    → HasInterfaceFault text fault → ⊥

-- a text has one first fault
abbrev pub OneFirstFault : Type 0
OneFirstFault =
    (text : List ℕ) (fault other : IfaceFault) → HasInterfaceFault text fault → HasInterfaceFault text other
    → fault ≡ other

-- every text is an interface or has a fault
abbrev pub InterfaceOrFault : Type 0
InterfaceOrFault =
    (text : List ℕ)
    → ((interface : Interface) × IsInterfaceText text interface) ⊎ ((fault : IfaceFault) × HasInterfaceFault text fault)

-- of the faults of declarations, the first in the order of the text has the least place
abbrev pub FirstIsLeast : Type 0
FirstIsLeast =
    (text : List ℕ) (tokens : List Token) (declarations : List Declaration) (fault : IfaceFault)
    (later : List IfaceFault)
    → IsTokens text tokens → spelled declarations ≡ terminals text tokens
    → faults_of (place_of tokens) 0 [] declarations ≡ fault ∷ later
    → All (λ other. declaration_place fault ≤ declaration_place other) later

-- the text of a signature is an interface that declares just its names with their schemes
abbrev pub PrintedIsInterface : Type 0
PrintedIsInterface =
    (entries : List SigEntry) → AreEntries entries
    → (interface : Interface) × IsInterfaceText (signature_text entries) interface
    × (map (λ val. val.name) interface.vals ≡ map (λ e. e.name) entries)
    × (map (λ val. val.scheme) interface.vals ≡ map (λ e. e.scheme) entries)

-- what a text declares has schemes that were read, and each name once
abbrev pub InterfaceIsValid : Type 0
InterfaceIsValid =
    (text : List ℕ) (interface : Interface) → IsInterfaceText text interface → AreDeclarations interface.vals

-- both say that all is matched, or both name one declaration, as absent or as too special
abbrev pub IsSameAnswer : MatchAnswer → MatchAnswer → Type 0
IsSameAnswer answer.All answer.All = Unit {0}
IsSameAnswer (answer.Missing x) (answer.Missing y) = x ≡ y
IsSameAnswer (answer.TooSpecial x path) (answer.TooSpecial y other) = x ≡ y
IsSameAnswer _ _ = ⊥

-- a signature has one answer to an interface, but for the path
abbrev pub OneMatchAnswer : Type 0
OneMatchAnswer =
    (entries : List SigEntry) (vals : List Val) (reason other : MatchAnswer) → AreEntries entries
    → IsMatchAnswer entries vals reason → IsMatchAnswer entries vals other → IsSameAnswer reason other

-- the first fault of a text stands in it, or at its end
abbrev pub FaultIsInText : Type 0
FaultIsInText =
    (text : List ℕ) (fault : IfaceFault) → HasInterfaceFault text fault → fault_place (length text) fault ≤ length text
