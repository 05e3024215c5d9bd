-- What is found when a module's signature is asked for or compared with its interface, or when a derivation of it is
-- asked for or checked: stage by stage, up to the first that refuses.
use Rattle.std.specs.Prelude.{◌≡◌, ℕ, List, [], ◌∷◌, length, slice_get, Some, Result, Ok, Err}
use Rattle.mls_base.specs.Files.{Files}
use Rattle.mls_grammar.specs.declared.module.Module.{Module}
use Rattle.mls_grammar.specs.declared.module.Import.{Import}
use Rattle.mls_grammar.specs.declared.fault.Fault.{Fault}
use Rattle.mls_grammar.specs.declared.fault.Fault.TheVariants as fault
use Rattle.mls_grammar.specs.Modules.{IsModuleText}
use Rattle.mls_grammar.specs.FirstFaults.{HasFirstFault}
use Rattle.mls_term.specs.declared.term.Resolved.{Resolved}
use Rattle.mls_term.specs.declared.term.ResolvedBinding.{ResolvedBinding}
use Rattle.mls_term.specs.declared.term.TermNode.{TermNode}
use Rattle.mls_names.specs.Resolution.{Resolves, HasUnknownName}
use Rattle.mls_typetext.specs.declared.scheme.ReadScheme.{ReadScheme}
use Rattle.mls_typetext.specs.Schemes.{environment}
use Rattle.mls_deriv.specs.declared.derivation.Derivation.{Derivation}
use Rattle.mls_deriv.specs.declared.derivation.Section.{Section}
use Rattle.mls_deriv.specs.BadLines.{IsFirstBadLine}
use Rattle.mls_deriv.specs.Laws.{AreDerivable}
use Rattle.mls_deriv.specs.Sections.{schemes_of, AreSectionsAllowed, HasFirstRefused}
use Rattle.mls_deriv.specs.Spellings.{derivation_text}
use Rattle.mls_deriv.specs.Texts.{IsTextOf}
use Rattle.mls_infer.specs.declared.fault.SiteKind.{SiteKind}
use Rattle.mls_iface.specs.declared.interface.Interface.{Interface}
use Rattle.mls_iface.specs.declared.interface.IfaceFault.{IfaceFault}
use Rattle.mls_iface.specs.declared.signature.Signature.{Signature}
use Rattle.mls_iface.specs.Interfaces.{IsInterfaceText, HasInterfaceFault}
use Rattle.mls_iface.specs.Signatures.{signature_text}
use Rattle.mls_iface.specs.declared.matching.MatchAnswer.TheVariants.{All, Missing, TooSpecial}
use Rattle.mls_iface.specs.Matches.{IsMatchAnswer}
use Rattle.mls_subsume.specs.declared.verdict.Path.{Path}
use Rattle.mls_emit.specs.Derived.{AreDerivations}
use Rattle.mls_modules.specs.declared.fault.ModuleFault.TheVariants as module_fault
use Rattle.mls_modules.specs.Entries.{IsSignatureOf}
use Rattle.mls_modules.specs.Environments.{declared_names, declared_schemes}
use Rattle.mls_modules.specs.ModuleFaults.{HasModuleFault, IsWithoutScheme}
use Rattle.mls_top.specs.declared.status.Status.{Status}
use Rattle.mls_top.specs.declared.status.Status.TheVariants.{Done}
use Rattle.mls_top.specs.Generator.{generated_name, generated}
use Rattle.mls_top.specs.Lines.{module_file, interface_file, derivation_file, matches_line, verified_line}
use Rattle.mls_top.specs.Lines.{generated_line}
use Rattle.mls_top.specs.Refusals.{Refusal, no_scheme, absent, too_special, bad_line, not_allowed}
use Rattle.mls_top.specs.Refusals.{for_fault, for_interface_fault, text_at, refusal_status, refusal_text}

-- the most bytes that the text of a module or of an interface may have
abbrev pub module_limit : ℕ
module_limit = 1048576

-- the most bytes that the text of a derivation may have
abbrev pub derivation_limit : ℕ
derivation_limit = 67108864

-- the module that the text of a file is, or why it is refused
pub data ReadsModule (file text : List ℕ) : Result Module Refusal → Type 0 where
  is_module : {m : Module} → IsModuleText text m → ReadsModule file text (Ok m)
  -- the text has a first fault before its names are looked at
  is_faulty : {fault : Fault} → HasFirstFault text fault → ReadsModule file text (Err (for_fault file text fault))

-- what the interface of the module of this name declares, or why it is refused
pub data ReadsInterface (files : Files) (x : List ℕ) : Result Interface Refusal → Type 0 where
  -- the text is not there or too long
  no_interface : {r : Refusal} → text_at files (interface_file x) module_limit ≡ Err r
      → ReadsInterface files x (Err r)
  is_interface : {text : List ℕ} {i : Interface} → text_at files (interface_file x) module_limit ≡ Ok text
      → IsInterfaceText text i
      → ReadsInterface files x (Ok i)
  is_no_interface : {text : List ℕ} {fault : IfaceFault} → text_at files (interface_file x) module_limit ≡ Ok text
      → HasInterfaceFault text fault
      → ReadsInterface files x (Err (for_interface_fault (interface_file x) text fault))

-- what the imports of a module declare, in order, or why the first of them that is refused is
pub data ReadsImports (files : Files) : List Import → Result (List Interface) Refusal → Type 0 where
  no_import : ReadsImports files [] (Ok [])
  first_refused : {i : Import} {rest : List Import} {r : Refusal} → ReadsInterface files i.name (Err r)
      → ReadsImports files (i ∷ rest) (Err r)
  later_refused : {i : Import} {rest : List Import} {first : Interface} {r : Refusal}
      → ReadsInterface files i.name (Ok first) → ReadsImports files rest (Err r)
      → ReadsImports files (i ∷ rest) (Err r)
  all_read : {i : Import} {rest : List Import} {first : Interface} {others : List Interface}
      → ReadsInterface files i.name (Ok first) → ReadsImports files rest (Ok others)
      → ReadsImports files (i ∷ rest) (Ok (first ∷ others))

-- Over these files the module of this name has this text, and its imports declare this.
pub record HasSource (files : Files) (x text : List ℕ) (m : Module) (imports : List Interface) : Type 0 where
  pub text_is : text_at files (module_file x) module_limit ≡ Ok text
  pub is_module : IsModuleText text m
  pub reads : ReadsImports files m.imports (Ok imports)

-- the text of the module of this name is refused, or the interface of an import is
pub data HasNoSource (files : Files) (x : List ℕ) : Refusal → Type 0 where
  -- the text is not there or too long
  no_text : {r : Refusal} → text_at files (module_file x) module_limit ≡ Err r → HasNoSource files x r
  -- it is the text of no module
  bad_module : {text : List ℕ} {r : Refusal} → text_at files (module_file x) module_limit ≡ Ok text
      → ReadsModule (module_file x) text (Err r)
      → HasNoSource files x r
  bad_import : {text : List ℕ} {m : Module} {r : Refusal} → text_at files (module_file x) module_limit ≡ Ok text
      → IsModuleText text m → ReadsImports files m.imports (Err r)
      → HasNoSource files x r

-- the first binding of the module that has no scheme has this name, and its first node without one this place
pub record HasNoScheme (m : Module) (imports : List Interface) (x : List ℕ) (place : ℕ) : Type 0 where
  pub number : ℕ
  pub node : ℕ
  pub without : IsWithoutScheme m imports number node
  pub x_is : x ≡ without.none.b.name
  pub found : TermNode
  pub stands : slice_get without.none.b.term.nodes node ≡ Some found
  pub place_is : place ≡ found.at

-- what is found for a module
pub data Outcome : Type 0 where
  refused : Refusal → Outcome
  -- each binding has an entry
  signed : Signature → Outcome
  -- the signature matches the interface
  matching : Outcome
  -- the types of the signature have this derivation
  derived : Derivation → Outcome
  -- each step of the derivation is allowed
  verified : Outcome

-- what is found for the bindings of a module whose imports declare this
pub data InfersBindings (file text : List ℕ) (m : Module) (imports : List Interface) : Outcome → Type 0 where
  -- a name has no meaning
  unknown_name : {at : ℕ} → HasModuleFault m imports (module_fault.UnknownName at)
      → InfersBindings file text m imports (refused (for_fault file text (fault.UnknownName at)))
  -- Some bindings have entries, and the one behind them has no scheme. Which kind is told of it is left open: what a
  -- kind says of an expression is not defined yet.
  one_has_none : {x : List ℕ} {place : ℕ} {kind : SiteKind} → HasNoScheme m imports x place
      → InfersBindings file text m imports (refused (no_scheme file text place x kind))
  all_inferred : {s : Signature} → IsSignatureOf m imports s → InfersBindings file text m imports (signed s)

-- what is found for the module of this name over these files: its signature, or why it has none
pub data Infers (files : Files) (x : List ℕ) : Outcome → Type 0 where
  no_source : {r : Refusal} → HasNoSource files x r → Infers files x (refused r)
  has_source : {text : List ℕ} {m : Module} {imports : List Interface} {outcome : Outcome}
      → HasSource files x text m imports
      → InfersBindings (module_file x) text m imports outcome
      → Infers files x outcome

-- what is found where the signature of the module of this name is compared with its interface: that they match, or
-- the first declaration that fails
pub data Compares (x : List ℕ) (s : Signature) (i : Interface) : Outcome → Type 0 where
  all_match : IsMatchAnswer s.entries i.vals All → Compares x s i matching
  one_is_absent : {declared : List ℕ} → IsMatchAnswer s.entries i.vals (Missing declared)
      → Compares x s i (refused (absent x declared))
  -- the path is one of those that are allowed
  one_is_too_special : {declared : List ℕ} {path : Path} → IsMatchAnswer s.entries i.vals (TooSpecial declared path)
      → Compares x s i (refused (too_special x declared path))

-- what is found where the module of this name over these files is compared with its interface
pub data Checks (files : Files) (x : List ℕ) : Outcome → Type 0 where
  -- the module has no signature
  no_signature : {r : Refusal} → Infers files x (refused r) → Checks files x (refused r)
  bad_interface : {s : Signature} {r : Refusal} → Infers files x (signed s) → ReadsInterface files x (Err r)
      → Checks files x (refused r)
  compared : {s : Signature} {i : Interface} {outcome : Outcome} → Infers files x (signed s)
      → ReadsInterface files x (Ok i) → Compares x s i outcome
      → Checks files x outcome

-- The derivation has a section for each entry of the signature, with its name and the text of its type. Over the
-- operators and what the imports declare each step of it is allowed for the bindings of the module; this shows that the
-- type that each section states is derivable for its binding. Its text is read as it. Which of the allowed derivations
-- it is, is left open.
pub record IsDerivationOf (m : Module) (imports : List Interface) (s : Signature) (d : Derivation) : Type 0 where
  pub b : Resolved
  pub resolves : Resolves m (declared_names imports) b
  pub known : List ReadScheme
  pub mean : schemes_of known ≡ environment (declared_schemes imports) []
  pub derives : AreDerivations known b.bindings s.entries d.sections
  pub derivable : AreDerivable known b.bindings d.sections
  pub text_of : IsTextOf (derivation_text d) d

-- what is found where a derivation of the types of the module of this name over these files is asked for
pub data Derives (files : Files) (x : List ℕ) : Outcome → Type 0 where
  -- the module has no signature
  not_inferred : {r : Refusal} → Infers files x (refused r) → Derives files x (refused r)
  has_derivation : {text : List ℕ} {m : Module} {imports : List Interface} {s : Signature} {d : Derivation}
      → HasSource files x text m imports → IsSignatureOf m imports s → IsDerivationOf m imports s d
      → Derives files x (derived d)

-- what the names of a module mean whose imports declare this, or why it is refused: one of them has no meaning
pub data ReadsNames (file text : List ℕ) (m : Module) (imports : List Interface) :
    Result Resolved Refusal → Type 0 where
  names_mean : {b : Resolved} → Resolves m (declared_names imports) b → ReadsNames file text m imports (Ok b)
  no_meaning : {fault : Fault} → HasUnknownName m (declared_names imports) fault
      → ReadsNames file text m imports (Err (for_fault file text fault))

-- the derivation of the module of this name, or why it is refused
pub data ReadsDerivation (files : Files) (x : List ℕ) : Result Derivation Refusal → Type 0 where
  -- the text is not there or too long
  no_derivation : {r : Refusal} → text_at files (derivation_file x) derivation_limit ≡ Err r
      → ReadsDerivation files x (Err r)
  is_derivation : {text : List ℕ} {d : Derivation} → text_at files (derivation_file x) derivation_limit ≡ Ok text
      → IsTextOf text d
      → ReadsDerivation files x (Ok d)
  -- the text has a first line that is not of the format
  is_no_derivation : {text : List ℕ} {line : ℕ} → text_at files (derivation_file x) derivation_limit ≡ Ok text
      → IsFirstBadLine text line
      → ReadsDerivation files x (Err (bad_line (derivation_file x) line))

-- what is found where the steps of a derivation are checked for the bindings of the module of this name, over these
-- schemes
pub data ChecksSteps (x : List ℕ) (known : List ReadScheme) (bindings : List ResolvedBinding)
    (sections : List Section) : Outcome → Type 0 where
  -- each step is allowed; this shows that the type that each section states is derivable for its binding
  all_allowed : AreSectionsAllowed known bindings sections → AreDerivable known bindings sections
      → ChecksSteps x known bindings sections verified
  -- steps are counted over all sections, and this is the first that is not allowed
  one_refused : {step : ℕ} → HasFirstRefused known 0 bindings sections step
      → ChecksSteps x known bindings sections (refused (not_allowed x step))

-- what is found where the derivation of the module of this name over these files is checked; no type is inferred
pub data Verifies (files : Files) (x : List ℕ) : Outcome → Type 0 where
  unread : {r : Refusal} → HasNoSource files x r → Verifies files x (refused r)
  bad_names : {text : List ℕ} {m : Module} {imports : List Interface} {r : Refusal} → HasSource files x text m imports
      → ReadsNames (module_file x) text m imports (Err r)
      → Verifies files x (refused r)
  bad_derivation : {text : List ℕ} {m : Module} {imports : List Interface} {b : Resolved} {r : Refusal}
      → HasSource files x text m imports → ReadsNames (module_file x) text m imports (Ok b)
      → ReadsDerivation files x (Err r)
      → Verifies files x (refused r)
  -- the known schemes are those of the operators and of what the imports declare
  checked : {text : List ℕ} {m : Module} {imports : List Interface} {b : Resolved} {d : Derivation}
      {known : List ReadScheme} {outcome : Outcome}
      → HasSource files x text m imports → ReadsNames (module_file x) text m imports (Ok b)
      → ReadsDerivation files x (Ok d)
      → schemes_of known ≡ environment (declared_schemes imports) []
      → ChecksSteps x known b.bindings d.sections outcome
      → Verifies files x outcome

-- the status and the text that tell an outcome for the module of this name
abbrev pub outcome_status : Outcome → Status
outcome_status (refused r) = refusal_status r
outcome_status (signed s) = Done
outcome_status matching = Done
outcome_status (derived d) = Done
outcome_status verified = Done

abbrev pub outcome_text : List ℕ → Outcome → List ℕ
outcome_text x (refused r) = refusal_text r
outcome_text x (signed s) = signature_text s.entries
outcome_text x matching = matches_line x
outcome_text x (derived d) = derivation_text d
outcome_text x verified = verified_line x

-- the text that tells an outcome for a generated module: of a signature only its length, beside that of the module
abbrev pub generated_text : (seed count : ℕ) → Outcome → List ℕ
generated_text seed count (signed s) =
    generated_line count (length (generated seed count)) (length (signature_text s.entries))
generated_text seed count outcome = outcome_text generated_name outcome
