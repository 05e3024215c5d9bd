-- What a run says after the text of an answer was written, or a front of it.
use Rattle.std.proofs.Common.{◌≡◌, ◌⊎◌, inl, inr, ℕ, true, false, List, refl, sym, subst}
use Rattle.std.specs.Prelude.{Option, Some, None}
use Rattle.mls_base.specs.Files.{Files}
use Rattle.mls_io.specs.Sinks.{Written, TakesNone}
use Rattle.mls_top.specs.declared.status.Status.{Status}
use Rattle.mls_top.specs.declared.status.Status.TheVariants.{Done, NoScheme, Mismatch, BadText, NoFile, ReadFault, WriteFault, Memory, Usage, NotVerified, TooLong}
use Rattle.mls_top.specs.declared.command.Command.{Command}
use Rattle.mls_top.specs.Statuses.{is_cut, is_answer}
use Rattle.mls_top.specs.Commands.{command_of}
use Rattle.mls_top.specs.Lines.{usage_line}
use Rattle.mls_top.specs.Answers.{IsAnswer, no_command, of_command, IsAnswerOf, IsAnswerFor}
use Rattle.mls_top.specs.Runs.{IsAnswered, IsCutOff, IsRunOver, IsRun}
use Rattle.mls_top.specs.Writing.{IsTold, AddsFront}
use Rattle.mls_top.proofs.Learning.{some_files}

-- an answer is not cut off
pub answer_not_cut : (s : Status) → is_answer s ≡ true → is_cut s ≡ false
answer_not_cut Done h = refl
answer_not_cut NoScheme h = refl
answer_not_cut Mismatch h = refl
answer_not_cut BadText h = refl
answer_not_cut NoFile h = refl
answer_not_cut ReadFault h = absurd (cc)
answer_not_cut WriteFault h = absurd (cc)
answer_not_cut Memory h = absurd (cc)
answer_not_cut Usage h = refl
answer_not_cut NotVerified h = refl
answer_not_cut TooLong h = refl

module _ (words : List (List ℕ)) (old new : Written) where
  -- a run that was not cut off has written an answer
  whole_run : (files : Files) (status : Status) → is_cut status ≡ false → IsAnswered files words old new status → IsRunOver files words old new status
  whole_run files Done h a = a
  whole_run files NoScheme h a = a
  whole_run files Mismatch h a = a
  whole_run files BadText h a = a
  whole_run files NoFile h a = a
  whole_run files ReadFault h a = absurd (cc)
  whole_run files WriteFault h a = absurd (cc)
  whole_run files Memory h a = absurd (cc)
  whole_run files Usage h a = a
  whole_run files NotVerified h a = a
  whole_run files TooLong h a = a

  module _ (status : Status) (text : List ℕ) where
    -- a front that was written is one of the answer's text
    cut_off : (files : Files) → IsAnswer files words status text → AddsFront old new text → IsCutOff files words old new
    cut_off files a front = record {
      front = front.1.front;
      of_answer = record { status = status; left = front.0; answer = let P : List ℕ → Type 0 = λ t. IsAnswer files words status t in subst P front.1.parts a };
      adds = front.1.adds;
    }

    run_over : (files : Files) → IsAnswer files words status text → is_cut status ≡ false → (result : Status) → IsTold status text old new result → IsRunOver files words old new result
    run_over files a uncut result (inl told) =
        let P : Status → Type 0 = λ s. IsRunOver files words old new s in
        subst P (sym told.0) (whole_run files status uncut (record { text = text; answer = a; adds = told.1 }))
    run_over files a uncut result (inr (inl told)) =
        let P : Status → Type 0 = λ s. IsRunOver files words old new s in subst P (sym told.0) (cut_off files a told.1)
    run_over files a uncut result (inr (inr told)) =
        let P : Status → Type 0 = λ s. IsRunOver files words old new s in subst P (sym told.0) (inr (cut_off files a told.1))

  -- words that are no command are answered so over all files
  pub usage_run : (told : Option Files) → command_of words ≡ None → (result : Status) → IsTold Usage usage_line old new result → IsRun told words old new result
  usage_run told none result written =
      let some = some_files told in
      record { files = some.0; of_store = some.1; over = run_over Usage usage_line some.0 (no_command none) refl result written }

  -- the answer of a command is one of its words
  pub command_run : (told : Option Files) (command : Command) (status : Status) (text said : List ℕ) → command_of words ≡ Some command → said ≡ text
      → IsAnswerFor told command status text → is_answer status ≡ true → (result : Status) → IsTold status said old new result → IsRun told words old new result
  command_run told command status text said is same a answers result written =
      let Said : List ℕ → Type 0 = λ t. IsAnswerOf a.files command status t in
      let answer : IsAnswer a.files words status said = of_command command is (subst Said (sym same) a.holds) in
      record { files = a.files; of_store = a.of_store; over = run_over status said a.files answer (answer_not_cut status answers) result written }

  -- a run that was given up before anything was written
  pub stopped_run : (told : Option Files) (status : Status) → TakesNone old new → (status ≡ ReadFault) ⊎ (status ≡ Memory) → IsRun told words old new status
  stopped_run told status none (inl is) =
      let some = some_files told in
      let P : Status → Type 0 = λ s. IsRunOver some.0 words old new s in
      record { files = some.0; of_store = some.1; over = subst P (sym is) none }
  stopped_run told status none (inr is) =
      let some = some_files told in
      let P : Status → Type 0 = λ s. IsRunOver some.0 words old new s in
      record { files = some.0; of_store = some.1; over = subst P (sym is) (inl none) }
