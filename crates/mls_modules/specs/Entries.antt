-- The entries of a module's signature.
use Rattle.std.specs.Prelude.{◌≡◌, ℕ, List, [], length, take, slice_get, Some}
use Rattle.mls_book.specs.Schemes as book
use Rattle.mls_book.specs.Schemes.{AreEquivalent}
use Rattle.mls_term.specs.declared.term.Resolved.{Resolved}
use Rattle.mls_term.specs.declared.term.ResolvedBinding.{ResolvedBinding}
use Rattle.mls_term.specs.Terms.{TermTree, postorder}
use Rattle.mls_term.specs.Derivations.{IsBest}
use Rattle.mls_term.specs.WellFormed.{IsFirstNone}
use Rattle.mls_grammar.specs.declared.module.Module.{Module}
use Rattle.mls_names.specs.Resolution.{Resolves}
use Rattle.mls_typetext.specs.declared.scheme.ReadScheme.{ReadScheme}
use Rattle.mls_typetext.specs.Schemes.{scheme_of}
use Rattle.mls_automaton.specs.declared.scheme.Scheme.{Scheme}
use Rattle.mls_automaton.specs.Schemes.{IsScheme, IsSchemeOf}
use Rattle.mls_shape.specs.Simplified.{IsSimplified}
use Rattle.mls_print.specs.Printed.{HasNamedFields, IsPrinted}
use Rattle.mls_iface.specs.declared.interface.Interface.{Interface}
use Rattle.mls_iface.specs.declared.matching.MatchAnswer.{MatchAnswer}
use Rattle.mls_iface.specs.declared.signature.SigEntry.{SigEntry}
use Rattle.mls_iface.specs.declared.signature.Signature.{Signature}
use Rattle.mls_iface.specs.Matches.{IsMatchAnswer}
use Rattle.mls_iface.specs.Signatures.{IsEntry, signature_text}
use Rattle.mls_modules.specs.Environments.{declared_names, known_after}

-- the text is printed of a simplified scheme, which needs no binder, whose labels are names, and which is equivalent to
-- what the text is read as
pub record IsSimplyPrinted (text : List ℕ) (read : ReadScheme) : Type 0 where
  pub scheme : Scheme
  pub is : IsScheme scheme
  pub simplified : IsSimplified scheme
  pub free : scheme.env ≡ []
  pub named : HasNamedFields scheme.automaton
  pub printed : IsPrinted scheme text
  pub equivalent : (t : book.Scheme) → IsSchemeOf scheme t → AreEquivalent (scheme_of read) t

-- the entry is one for the binding behind earlier entries: its text is a type, which is read as the most general scheme
-- of the binding's term, and it is printed of a simplified one
pub record IsEntryOf (imports : List Interface) (earlier : List SigEntry) (b : ResolvedBinding) (e : SigEntry)
    : Type 0 where
  pub name : e.name ≡ b.name
  pub is_entry : IsEntry e
  pub term_tree : TermTree
  pub nodes : b.term.nodes ≡ postorder 0 term_tree
  pub best : IsBest (known_after imports earlier) term_tree (scheme_of e.scheme)
  pub printed : IsSimplyPrinted e.text e.scheme

-- the node of this number is the first in postorder of the binding's term that has no scheme behind earlier entries;
-- each name that a let binds around it has a most general scheme there
pub record HasFirstNone (imports : List Interface) (earlier : List SigEntry) (b : ResolvedBinding) (node : ℕ)
    : Type 0 where
  pub term_tree : TermTree
  pub nodes : b.term.nodes ≡ postorder 0 term_tree
  pub first : IsFirstNone (known_after imports earlier).globals term_tree node

-- entry k is one for binding k behind the first k entries
abbrev pub AreEntriesOf : List Interface → List ResolvedBinding → List SigEntry → Type 0
AreEntriesOf imports bindings entries =
    (k : ℕ) (b : ResolvedBinding) (e : SigEntry) → slice_get bindings k ≡ Some b → slice_get entries k ≡ Some e
    → IsEntryOf imports (take k entries) b e

-- there is an entry for each binding
pub record AreAllEntriesOf (imports : List Interface) (bindings : List ResolvedBinding) (entries : List SigEntry)
    : Type 0 where
  pub count : length entries ≡ length bindings
  pub are_entries : AreEntriesOf imports bindings entries

-- binding k is the first without an entry, and this node of its term the first without a scheme
pub record HasNoEntry (imports : List Interface) (bindings : List ResolvedBinding) (k node : ℕ) : Type 0 where
  pub entries : List SigEntry
  pub count : length entries ≡ k
  pub are_entries : AreEntriesOf imports bindings entries
  pub b : ResolvedBinding
  pub binding : slice_get bindings k ≡ Some b
  pub first : HasFirstNone imports entries b node

-- the names of the module have meanings, and it has these entries
pub record IsSignatureOf (m : Module) (imports : List Interface) (s : Signature) : Type 0 where
  pub resolved : Resolved
  pub resolves : Resolves m (declared_names imports) resolved
  pub entries : AreAllEntriesOf imports resolved.bindings s.entries

-- the text is that of a signature of the module
pub record IsSignatureText (m : Module) (imports : List Interface) (text : List ℕ) : Type 0 where
  pub signature : Signature
  pub is_signature : IsSignatureOf m imports signature
  pub text_is : text ≡ signature_text signature.entries

-- this is what the match of a signature of the module and this interface answers
pub record IsMatchOf (m : Module) (imports : List Interface) (own : Interface) (answer : MatchAnswer) : Type 0 where
  pub signature : Signature
  pub is_signature : IsSignatureOf m imports signature
  pub matched : IsMatchAnswer signature.entries own.vals answer
