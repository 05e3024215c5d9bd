-- What answers tell of refusals and outcomes, and what was counted for it.
use Rattle.std.proofs.Common.{◌≡◌, ℕ, true, List, ◌++◌, append_assoc, codes, refl, sym, ap, ◌∙◌, subst}
use Rattle.std.specs.Prelude.{Option, Result, Ok, Err, IfErr}
use Rattle.std.specs.Result.{IsErrAnd}
use Rattle.mls_base.specs.Files.{Files}
use Rattle.mls_io.specs.Stores.{Holdings, Follows}
use Rattle.mls_io.proofs.CountLaws.{Grows-Rose}
use Rattle.mls_top.specs.declared.answer.Answer.{Answer}
use Rattle.mls_top.specs.declared.answer.Halt.TheVariants as halt
use Rattle.mls_top.specs.declared.answer.Stop.{Stop}
use Rattle.mls_top.specs.declared.answer.Stop.TheVariants as stop
use Rattle.mls_infer.specs.declared.fault.SiteKind.{SiteKind}
use Rattle.mls_infer.specs.declared.fault.SiteKind.TheVariants.{Lacks}
use Rattle.mls_top.specs.Lines.{kind_text}
use Rattle.mls_top.specs.declared.command.Command.TheVariants.{Infer, Check, Derive, Verify}
use Rattle.mls_top.specs.declared.status.Status.{Status}
use Rattle.mls_top.specs.declared.status.Status.TheVariants.{Done, NoScheme, Mismatch, BadText, NoFile, ReadFault, WriteFault, Memory, Usage, NotVerified, TooLong}
use Rattle.mls_top.specs.Answers.{infer, check, derive, verify, IsOver}
use Rattle.mls_top.specs.Outcomes.{Outcome, refused, signed, matching, derived, verified, outcome_status, Infers, Checks, no_signature, Derives, not_inferred, Verifies}
use Rattle.mls_top.specs.Refusals.{Refusal, no_file, too_long, bad_text, no_scheme, absent, too_special, bad_line, not_allowed}
use Rattle.mls_top.specs.Statuses.{is_answer}
use Rattle.mls_top.specs.steps.Answering.{IsCausedBy, IsCausedStop, IsUncounted, IsStop, IsAsked, IsAskedStop, Tells, TellsOutcome}

-- an outcome has a status of an answer
pub outcome_is_answer : (o : Outcome) → is_answer (outcome_status o) ≡ true
outcome_is_answer (refused (no_file file)) = refl
outcome_is_answer (refused (too_long file limit)) = refl
outcome_is_answer (refused (bad_text file text place number words)) = refl
outcome_is_answer (refused (no_scheme file text place x kind)) = refl
outcome_is_answer (refused (absent x declared)) = refl
outcome_is_answer (refused (too_special x declared path)) = refl
outcome_is_answer (refused (bad_line file line)) = refl
outcome_is_answer (refused (not_allowed x step)) = refl
outcome_is_answer (signed s) = refl
outcome_is_answer matching = refl
outcome_is_answer (derived d) = refl
outcome_is_answer verified = refl

-- statuses of which no count speaks
abbrev pub IsQuiet : Status → Type 0
IsQuiet s = (old new : Holdings) → IsCausedBy s old new

pub quiet_is_uncounted : (s : Status) (answer : Answer) → IsQuiet s → answer.status ≡ s → IsUncounted (stop.Refused answer)
quiet_is_uncounted s answer quiet is old new = let P : Status → Type 0 = λ s. IsCausedBy s old new in subst P (sym is) (quiet old new)

-- what was counted in a part of a call was counted in it
caused_by_later : (s : Status) (old mid new : Holdings) → Follows old mid → IsCausedBy s mid new → IsCausedBy s old new
caused_by_later Done old mid new first h = tt
caused_by_later NoScheme old mid new first h = tt
caused_by_later Mismatch old mid new first h = tt
caused_by_later BadText old mid new first h = tt
caused_by_later NoFile old mid new first h = Grows-Rose old.misses mid.misses new.misses first.misses h
caused_by_later ReadFault old mid new first h = Grows-Rose old.faults mid.faults new.faults first.faults h
caused_by_later WriteFault old mid new first h = tt
caused_by_later Memory old mid new first h = tt
caused_by_later Usage old mid new first h = tt
caused_by_later NotVerified old mid new first h = tt
caused_by_later TooLong old mid new first h = Grows-Rose old.longs mid.longs new.longs first.longs h

pub caused_later : (s : Stop) (old mid new : Holdings) → Follows old mid → IsCausedStop mid new s → IsCausedStop old new s
caused_later (stop.Refused answer) old mid new first h = caused_by_later answer.status old mid new first h
caused_later (stop.Halt halt.ReadFault) old mid new first h = caused_by_later ReadFault old mid new first h
caused_later (stop.Halt halt.Memory) old mid new first h = tt

-- a stop is that of whatever its refusals are
pub stop_then : (P Q : Refusal → Type 0) → ((r : Refusal) → P r → Q r) → (s : Stop) → IsStop P s → IsStop Q s
stop_then P Q then (stop.Refused answer) h = (h.0, h.1, then h.0 h.2)
stop_then P Q then (stop.Halt why) h = tt

module _ (x : List ℕ) (old new : Holdings) (answer : Answer) (o : Outcome) (tells : TellsOutcome x o answer) (caused : IsCausedBy answer.status old new) where
  -- what is found for a module is what a command on it answers
  pub infer_is_asked : IsOver old.files (λ files. Infers files x o) → IsAsked old new (Infer x) answer
  infer_is_asked it = record {
    answers = record { files = it.files; of_store = it.of_store; holds = infer x o it.holds tells.status tells.text };
    caused = caused;
    answer_status = ap is_answer tells.status ∙ outcome_is_answer o;
  }

  pub check_is_asked : IsOver old.files (λ files. Checks files x o) → IsAsked old new (Check x) answer
  check_is_asked it = record {
    answers = record { files = it.files; of_store = it.of_store; holds = check x o it.holds tells.status tells.text };
    caused = caused;
    answer_status = ap is_answer tells.status ∙ outcome_is_answer o;
  }

  pub derive_is_asked : IsOver old.files (λ files. Derives files x o) → IsAsked old new (Derive x) answer
  derive_is_asked it = record {
    answers = record { files = it.files; of_store = it.of_store; holds = derive x o it.holds tells.status tells.text };
    caused = caused;
    answer_status = ap is_answer tells.status ∙ outcome_is_answer o;
  }

  pub verify_is_asked : IsOver old.files (λ files. Verifies files x o) → IsAsked old new (Verify x) answer
  verify_is_asked it = record {
    answers = record { files = it.files; of_store = it.of_store; holds = verify x o it.holds tells.status tells.text };
    caused = caused;
    answer_status = ap is_answer tells.status ∙ outcome_is_answer o;
  }

-- a refusal that is told is an outcome that is told
refusal_told : (x : List ℕ) (r : Refusal) (answer : Answer) → Tells r answer → TellsOutcome x (refused r) answer
refusal_told x r answer it = record { status = it.status; text = it.text }

-- a module without a signature is refused by each command that infers
pub infer_stops : (x : List ℕ) (old new : Holdings) (s : Stop) → IsStop (λ r. IsOver old.files (λ files. Infers files x (refused r))) s → IsCausedStop old new s → IsAskedStop old new (Infer x) s
infer_stops x old new (stop.Refused answer) h caused = infer_is_asked x old new answer (refused h.0) (refusal_told x h.0 answer h.1) caused h.2
infer_stops x old new (stop.Halt why) h caused = caused

pub check_stops : (x : List ℕ) (old new : Holdings) (s : Stop) → IsStop (λ r. IsOver old.files (λ files. Checks files x (refused r))) s → IsCausedStop old new s → IsAskedStop old new (Check x) s
check_stops x old new (stop.Refused answer) h caused = check_is_asked x old new answer (refused h.0) (refusal_told x h.0 answer h.1) caused h.2
check_stops x old new (stop.Halt why) h caused = caused

pub derive_stops : (x : List ℕ) (old new : Holdings) (s : Stop) → IsStop (λ r. IsOver old.files (λ files. Infers files x (refused r))) s → IsCausedStop old new s → IsAskedStop old new (Derive x) s
derive_stops x old new (stop.Refused answer) h caused =
    derive_is_asked x old new answer (refused h.0) (refusal_told x h.0 answer h.1) caused (record { files = h.2.files; of_store = h.2.of_store; holds = not_inferred h.2.holds })
derive_stops x old new (stop.Halt why) h caused = caused

pub verify_stops : (x : List ℕ) (old new : Holdings) (s : Stop) → IsStop (λ r. IsOver old.files (λ files. Verifies files x (refused r))) s → IsCausedStop old new s → IsAskedStop old new (Verify x) s
verify_stops x old new (stop.Refused answer) h caused = verify_is_asked x old new answer (refused h.0) (refusal_told x h.0 answer h.1) caused h.2
verify_stops x old new (stop.Halt why) h caused = caused

pub unsigned_over : (told : Option Files) (x : List ℕ) (r : Refusal) → IsOver told (λ files. Infers files x (refused r)) → IsOver told (λ files. Checks files x (refused r))
unsigned_over told x r it = record { files = it.files; of_store = it.of_store; holds = no_signature it.holds }

-- what is said of a record without a field
pub lacking_added : (old mid new label : List ℕ) (kind : SiteKind) (bytes : List ℕ) → kind ≡ Lacks label → bytes ≡ label → mid ≡ old ++ codes "a record without the field " → new ≡ mid ++ bytes → new ≡ old ++ kind_text kind
lacking_added old mid new label kind bytes is same front back =
    back ∙ (λ i. front i ++ same i) ∙ append_assoc old (codes "a record without the field ") label ∙ ap (λ k. old ++ kind_text k) (sym is)

-- a stop that is passed on
pub passed : {T : Type 0} (result : Result T Stop) (s : Stop) (P : Stop → Type 0) → IsErrAnd result (λ e. e ≡ s) → P s → IfErr result P
passed (Ok x) s P is h = tt
passed (Err e) s P is h = subst P (sym is) h
