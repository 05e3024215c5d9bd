-- What the phases of a run say to one another.
use Rattle.std.specs.Prelude.{◌≡◌, ◌≢◌, ℕ, ◌<◌, ◌≤◌, List, [], Result, MatchResult, IsTrue}
use Rattle.mls_base.specs.Files.{Files}
use Rattle.mls_io.specs.Counts.{Rose}
use Rattle.mls_io.specs.Stores.{Holdings}
use Rattle.mls_grammar.specs.declared.module.Module.{Module}
use Rattle.mls_iface.specs.declared.interface.Interface.{Interface}
use Rattle.mls_iface.specs.declared.interface.IfaceFault.{IfaceFault}
use Rattle.mls_iface.specs.declared.signature.Signature.{Signature}
use Rattle.mls_iface.specs.Interfaces.{HasInterfaceFault}
use Rattle.mls_term.specs.declared.term.ResolvedBinding.{ResolvedBinding}
use Rattle.mls_typetext.specs.declared.scheme.ReadScheme.{ReadScheme}
use Rattle.mls_typetext.specs.Schemes.{environment}
use Rattle.mls_deriv.specs.declared.derivation.Section.{Section}
use Rattle.mls_deriv.specs.BadLines.{IsFirstBadLine}
use Rattle.mls_deriv.specs.Sections.{schemes_of}
use Rattle.mls_modules.specs.Environments.{declared_schemes}
use Rattle.mls_modules.specs.declared.fault.ModuleFault.{ModuleFault}
use Rattle.mls_modules.specs.declared.fault.ModuleFault.TheVariants.{Memory as WantOfMemory}
use Rattle.mls_modules.specs.Entries.{IsSignatureOf}
use Rattle.mls_modules.specs.ModuleFaults.{HasModuleFault}
use Rattle.mls_top.specs.declared.answer.Answer.{Answer}
use Rattle.mls_top.specs.declared.answer.Halt.{Halt}
use Rattle.mls_top.specs.declared.answer.Halt.TheVariants as halt
use Rattle.mls_top.specs.declared.answer.Stop.{Stop}
use Rattle.mls_top.specs.declared.answer.Stop.TheVariants as stop
use Rattle.mls_top.specs.declared.command.Command.{Command}
use Rattle.mls_top.specs.declared.command.Command.TheVariants.{Generate}
use Rattle.mls_top.specs.declared.infer.SignedModule.{SignedModule}
use Rattle.mls_top.specs.declared.status.Status.{Status}
use Rattle.mls_top.specs.declared.status.Status.TheVariants.{NoFile, TooLong, ReadFault, Memory}
use Rattle.mls_top.specs.Answers.{IsAnswerFor}
use Rattle.mls_top.specs.Outcomes.{Outcome, refused, Compares, ChecksSteps, HasSource, InfersBindings}
use Rattle.mls_top.specs.Outcomes.{outcome_status, outcome_text}
use Rattle.mls_top.specs.Refusals.{Refusal, bad_line, for_interface_fault, refusal_status, refusal_text}
use Rattle.mls_top.specs.Statuses.{is_answer}

-- the status of a run that has no answer
abbrev pub halt_status : Halt → Status
halt_status halt.ReadFault = ReadFault
halt_status halt.Memory = Memory

-- the count of the store that a status speaks of rose
abbrev pub IsCausedBy : Status → Holdings → Holdings → Type 0
IsCausedBy NoFile old new = Rose old.misses new.misses
IsCausedBy TooLong old new = Rose old.longs new.longs
IsCausedBy ReadFault old new = Rose old.faults new.faults
IsCausedBy _ old new = Unit {0}

abbrev pub IsCaused : Holdings → Holdings → Result Answer Halt → Type 0
IsCaused old new result =
    MatchResult result (λ answer. IsCausedBy answer.status old new) (λ h. IsCausedBy (halt_status h) old new)

abbrev pub IsCausedStop : Holdings → Holdings → Stop → Type 0
IsCausedStop old new (stop.Refused answer) = IsCausedBy answer.status old new
IsCausedStop old new (stop.Halt h) = IsCausedBy (halt_status h) old new

-- no count has to rise for it
abbrev pub IsUncounted : Stop → Type 0
IsUncounted s = (old new : Holdings) → IsCausedStop old new s

-- the answer tells the refusal
pub record Tells (r : Refusal) (answer : Answer) : Type 0 where
  pub status : answer.status ≡ refusal_status r
  pub text : answer.text.items ≡ refusal_text r

-- the answer tells the outcome for the module of this name
pub record TellsOutcome (x : List ℕ) (outcome : Outcome) (answer : Answer) : Type 0 where
  pub status : answer.status ≡ outcome_status outcome
  pub text : answer.text.items ≡ outcome_text x outcome

-- the numbers of a command are within their limits
abbrev pub IsWithinLimits : Command → Type 0
IsWithinLimits (Generate seed count) = (seed < 2147483648) × (1 ≤ count) × (count ≤ 10000)
IsWithinLimits _ = Unit {0}

-- a refusal is told of which this holds, or there is no answer
abbrev pub IsStop : (Refusal → Type 0) → Stop → Type 0
IsStop P (stop.Refused answer) = (r : Refusal) × Tells r answer × P r
IsStop P (stop.Halt h) = Unit {0}

-- the answer is one for the command, and what it speaks of was counted
pub record IsAsked (old new : Holdings) (command : Command) (answer : Answer) : Type 0 where
  pub answers : IsAnswerFor old.files command answer.status answer.text.items
  pub caused : IsCausedBy answer.status old new
  pub answer_status : IsTrue (is_answer answer.status)

abbrev pub IsAskedStop : Holdings → Holdings → Command → Stop → Type 0
IsAskedStop old new command (stop.Refused answer) = IsAsked old new command answer
IsAskedStop old new command (stop.Halt h) = IsCausedBy (halt_status h) old new

-- the answer is one for the command over any store, which is left as it is
abbrev pub IsAskedOfNone : Command → Answer → Type 0
IsAskedOfNone command answer = (store : Holdings) → IsAsked store store command answer

abbrev pub IsAskedStopOfNone : Command → Stop → Type 0
IsAskedStopOfNone command s = (store : Holdings) → IsAskedStop store store command s

-- the refusal is that of an interface with this text for a fault of it
abbrev pub IsForFault : (file text : List ℕ) → Refusal → Type 0
IsForFault file text r =
    (fault : IfaceFault) × HasInterfaceFault text fault × (r ≡ for_interface_fault file text fault)

-- the module has no signature over some interfaces, for this reason
abbrev pub HasFaultOverSome : Module → ModuleFault → Type 0
HasFaultOverSome m fault = (imports : List Interface) × HasModuleFault m imports fault

-- the answer tells what is found for the bindings of the module over interfaces for which it has this fault
pub record TellsFault (file text : List ℕ) (m : Module) (fault : ModuleFault) (answer : Answer) : Type 0 where
  pub r : Refusal
  pub not_memory : fault ≢ WantOfMemory
  pub uncounted : IsUncounted (stop.Refused answer)
  pub tells : Tells r answer
  pub is : (imports : List Interface) → HasModuleFault m imports fault → InfersBindings file text m imports (refused r)

-- over these files this is the module of this name, what its imports declare, and its signature
pub record IsSignedModule (files : Files) (x : List ℕ) (s : SignedModule) : Type 0 where
  pub source : HasSource files x s.source.text.items s.source.parsed s.source.imports
  pub signature : IsSignatureOf s.source.parsed s.source.imports s.signature

-- the answer tells what is found where the signature of the module of this name is compared with its interface
pub record TellsComparison (x : List ℕ) (s : Signature) (i : Interface) (answer : Answer) : Type 0 where
  pub outcome : Outcome
  pub compares : Compares x s i outcome
  pub tells : TellsOutcome x outcome answer

-- the refusal is that of a derivation with this text for its first bad line
abbrev pub IsForBadLine : (file text : List ℕ) → Refusal → Type 0
IsForBadLine file text r = (line : ℕ) × IsFirstBadLine text line × (r ≡ bad_line file line)

-- the answer tells what is found where the steps of a derivation are checked, over what the imports declare
pub record TellsCheck (x : List ℕ) (imports : List Interface) (bindings : List ResolvedBinding)
    (sections : List Section) (answer : Answer) : Type 0 where
  pub known : List ReadScheme
  pub mean : schemes_of known ≡ environment (declared_schemes imports) []
  pub outcome : Outcome
  pub checks : ChecksSteps x known bindings sections outcome
  pub tells : TellsOutcome x outcome answer
