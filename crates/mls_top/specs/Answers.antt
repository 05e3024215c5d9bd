-- The answers of the commands.
use Rattle.std.specs.Prelude.{◌≡◌, ℕ, List, ◌++◌, Option, Some, None, IfSome}
use Rattle.mls_base.specs.Files.{Files}
use Rattle.mls_top.specs.declared.command.Command.{Command}
use Rattle.mls_top.specs.declared.command.Command.TheVariants.{Infer, Check, Derive, Verify, Generate}
use Rattle.mls_top.specs.declared.status.Status.{Status}
use Rattle.mls_top.specs.declared.status.Status.TheVariants.{Usage}
use Rattle.mls_top.specs.Commands.{command_of}
use Rattle.mls_top.specs.Generator.{generated_name, generated_files}
use Rattle.mls_top.specs.Lines.{usage_line}
use Rattle.mls_top.specs.Outcomes.{Outcome, Infers, Checks, Derives, Verifies}
use Rattle.mls_top.specs.Outcomes.{outcome_status, outcome_text, generated_text}

-- these files may be those of a store: where it tells its files, they are those
abbrev pub MayBeThose : Option Files → Files → Type 0
MayBeThose told files = IfSome told (λ those. files ≡ those)

-- the command answers with this status and this text over these files
pub data IsAnswerOf (files : Files) : Command → Status → List ℕ → Type 0 where
  -- the signature of a module
  infer : {status : Status} {text : List ℕ} (x : List ℕ) (outcome : Outcome)
      → Infers files x outcome → status ≡ outcome_status outcome → text ≡ outcome_text x outcome
      → IsAnswerOf files (Infer x) status text
  -- whether it matches the interface of the module
  check : {status : Status} {text : List ℕ} (x : List ℕ) (outcome : Outcome)
      → Checks files x outcome → status ≡ outcome_status outcome → text ≡ outcome_text x outcome
      → IsAnswerOf files (Check x) status text
  -- a derivation of the types of the signature
  derive : {status : Status} {text : List ℕ} (x : List ℕ) (outcome : Outcome)
      → Derives files x outcome → status ≡ outcome_status outcome → text ≡ outcome_text x outcome
      → IsAnswerOf files (Derive x) status text
  -- whether the derivation of the module is allowed
  verify : {status : Status} {text : List ℕ} (x : List ℕ) (outcome : Outcome)
      → Verifies files x outcome → status ≡ outcome_status outcome → text ≡ outcome_text x outcome
      → IsAnswerOf files (Verify x) status text
  -- the signature of a generated module, over the files where just its text is, whatever these files are
  generate : {status : Status} {text : List ℕ} (seed count : ℕ) (outcome : Outcome)
      → Infers (generated_files seed count) generated_name outcome
      → status ≡ outcome_status outcome → text ≡ generated_text seed count outcome
      → IsAnswerOf files (Generate seed count) status text

-- the words answer with this status and this text over these files
pub data IsAnswer (files : Files) (words : List (List ℕ)) : Status → List ℕ → Type 0 where
  -- the words are no command
  no_command : command_of words ≡ None → IsAnswer files words Usage usage_line
  -- the words are a command
  of_command : {status : Status} {text : List ℕ} (command : Command) → command_of words ≡ Some command
      → IsAnswerOf files command status text
      → IsAnswer files words status text

-- these bytes are a front of the text of some answer
pub record IsFrontOfAnswer (files : Files) (words : List (List ℕ)) (front : List ℕ) : Type 0 where
  pub status : Status
  pub left : List ℕ
  pub answer : IsAnswer files words status (front ++ left)

-- this holds of files that may be those of a store
pub record IsOver (told : Option Files) (P : Files → Type 0) : Type 0 where
  pub files : Files
  pub of_store : MayBeThose told files
  pub holds : P files

-- the command answers so over files that may be those of a store
abbrev pub IsAnswerFor : Option Files → Command → Status → List ℕ → Type 0
IsAnswerFor told command status text = IsOver told (λ files. IsAnswerOf files command status text)
