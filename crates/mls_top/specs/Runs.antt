-- What a run of the program does to its store and its sink.
use Rattle.std.specs.Prelude.{◌≡◌, ◌⊎◌, ℕ, List, Option}
use Rattle.mls_base.specs.Files.{Files}
use Rattle.mls_io.specs.Sinks.{Written, Adds, TakesNone}
use Rattle.mls_top.specs.declared.status.Status.{Status}
use Rattle.mls_top.specs.declared.status.Status.TheVariants.{ReadFault, WriteFault, Memory, Usage}
use Rattle.mls_top.specs.Answers.{MayBeThose, IsAnswer, IsFrontOfAnswer}
use Rattle.mls_top.specs.Lines.{usage_line}
use Rattle.mls_top.specs.Writing.{IsTold}

-- the whole text of an answer with this status was written
pub record IsAnswered (files : Files) (words : List (List ℕ)) (old new : Written) (status : Status) : Type 0 where
  pub text : List ℕ
  pub answer : IsAnswer files words status text
  pub adds : Adds old new text

-- a front of the text of some answer was written
pub record IsCutOff (files : Files) (words : List (List ℕ)) (old new : Written) : Type 0 where
  pub front : List ℕ
  pub of_answer : IsFrontOfAnswer files words front
  pub adds : Adds old new front

-- What a run over these files writes, by its status: after a read fault nothing, after a write fault a front of an
-- answer's text, for want of memory nothing or such a front, and otherwise the text of an answer with this status.
abbrev pub IsRunOver : Files → (words : List (List ℕ)) → (old new : Written) → Status → Type 0
IsRunOver files words old new ReadFault = TakesNone old new
IsRunOver files words old new WriteFault = IsCutOff files words old new
IsRunOver files words old new Memory = TakesNone old new ⊎ IsCutOff files words old new
IsRunOver files words old new status = IsAnswered files words old new status

-- a run of these words over files that may be those of the store
pub record IsRun (told : Option Files) (words : List (List ℕ)) (old new : Written) (status : Status) : Type 0 where
  pub files : Files
  pub of_store : MayBeThose told files
  pub over : IsRunOver files words old new status

-- the usage was written, or a front of it, by a fault of the sink or for want of memory; or memory was wanting before
abbrev pub IsWithoutCommand : (old new : Written) → Status → Type 0
IsWithoutCommand old new status = IsTold Usage usage_line old new status ⊎ ((status ≡ Memory) × TakesNone old new)
