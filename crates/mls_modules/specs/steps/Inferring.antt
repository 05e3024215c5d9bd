-- What is inferred of some bindings of a module.
use Rattle.std.specs.Prelude.{◌≡◌, ℕ, ◌<◌, Bool, IsTrue, List, [], ◌∷◌, ◌++◌, length, All}
use Rattle.mls_grammar.specs.declared.fault.Fault.{Fault}
use Rattle.mls_grammar.specs.declared.fault.Fault.TheVariants as names
use Rattle.mls_term.specs.declared.term.ResolvedBinding.{ResolvedBinding}
use Rattle.mls_typetext.specs.declared.scheme.Names.{Names}
use Rattle.mls_typetext.specs.declared.scheme.ReadScheme.{ReadScheme}
use Rattle.mls_typetext.specs.Texts.{IsTypeText}
use Rattle.mls_infer.specs.Inference.{AreNames}
use Rattle.mls_infer.specs.declared.fault.InferFault.{InferFault}
use Rattle.mls_infer.specs.declared.fault.InferFault.TheVariants as fault
use Rattle.mls_iface.specs.declared.interface.Interface.{Interface}
use Rattle.mls_iface.specs.declared.signature.SigEntry.{SigEntry}
use Rattle.mls_iface.specs.Signatures.{entry_line, signature_text}
use Rattle.mls_modules.specs.declared.fault.ModuleFault.{ModuleFault}
use Rattle.mls_modules.specs.declared.fault.ModuleFault.TheVariants.{UnknownName, NoScheme, Memory}
use Rattle.mls_modules.specs.declared.short.ShortTypes.{ShortTypes}
use Rattle.mls_modules.specs.Environments.{MeanAfter}
use Rattle.mls_modules.specs.Entries.{AreEntriesOf, AreAllEntriesOf, HasNoEntry, IsEntryOf}

-- the text is a type
abbrev pub IsType : List ℕ → Type 0
IsType text = (read : ReadScheme) × IsTypeText text read

-- each text that is kept is a type, and is read as what is kept with it
abbrev pub AreTypes : ShortTypes → Type 0
AreTypes types = All (λ known. IsTypeText known.text.items known.read) types.types.items

-- a fault of names as one of a module
abbrev pub of_names : Fault → ModuleFault
of_names (names.UnknownName at) = UnknownName at
of_names _ = Memory

-- why a module has no signature, where inference of binding k ended so
abbrev pub at_binding : ℕ → InferFault → ModuleFault
at_binding k (fault.NoScheme site) = NoScheme k site
at_binding k fault.Memory = Memory

-- why these bindings have no entries, if memory was not wanting
abbrev pub EndsAt : List Interface → List ResolvedBinding → ModuleFault → Type 0
EndsAt imports bindings (NoScheme k site) = HasNoEntry imports bindings k site.node
EndsAt imports bindings (UnknownName at) = ⊥
EndsAt imports bindings Memory = Unit {0}

-- the first k bindings have these entries, and the names mean what is known behind them
pub record HaveEntries (imports : List Interface) (bindings : List ResolvedBinding) (k : ℕ) (names : Names)
    (entries : List SigEntry) : Type 0 where
  pub count : length entries ≡ k
  pub are_entries : AreEntriesOf imports bindings entries
  pub are_names : AreNames names
  pub mean : MeanAfter imports entries names

-- the text is that of entries of the first k bindings; where another binding follows, the names mean what is known
-- behind them
pub record HaveLines (imports : List Interface) (bindings : List ResolvedBinding) (k : ℕ) (names : Names)
    (text : List ℕ) : Type 0 where
  pub entries : List SigEntry
  pub count : length entries ≡ k
  pub are_entries : AreEntriesOf imports bindings entries
  pub text_is : text ≡ signature_text entries
  pub before : k < length bindings → HaveEntries imports bindings k names entries

-- the text is that of an entry for each binding
pub record IsTextOfAll (imports : List Interface) (bindings : List ResolvedBinding) (text : List ℕ) : Type 0 where
  pub entries : List SigEntry
  pub are_entries : AreAllEntriesOf imports bindings entries
  pub text_is : text ≡ signature_text entries

-- the line of an entry of the binding was added to the text, whatever entries the names come from; where another binding
-- follows, what its text is read as was added to the names
pub record IsLineAdded (binding : ResolvedBinding) (follows : Bool) (old_names new_names : Names)
    (old_text new_text : List ℕ) : Type 0 where
  pub entry : SigEntry
  pub is_entry : (imports : List Interface) (earlier : List SigEntry) → MeanAfter imports earlier old_names
      → IsEntryOf imports earlier binding entry
  pub text_is : new_text ≡ old_text ++ entry_line entry
  pub names_are : IsTrue follows → new_names.schemes ≡ old_names.schemes ++ entry.scheme ∷ []
