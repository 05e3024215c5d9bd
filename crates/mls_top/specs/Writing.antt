-- What is written of a text.
use Rattle.std.specs.Prelude.{◌≡◌, ◌⊎◌, ℕ, List, ◌++◌}
use Rattle.mls_io.specs.Counts.{Rose}
use Rattle.mls_io.specs.Sinks.{Written, Adds}
use Rattle.mls_top.specs.declared.status.Status.{Status}
use Rattle.mls_top.specs.declared.status.Status.TheVariants.{WriteFault, Memory}

-- the text is a front and what is left of it, and the front was added
pub record AddsBefore (old new : Written) (text left : List ℕ) : Type 0 where
  pub front : List ℕ
  pub parts : text ≡ front ++ left
  pub adds : Adds old new front

-- a front of the text was added
abbrev pub AddsFront : Written → Written → List ℕ → Type 0
AddsFront old new text = (left : List ℕ) × AddsBefore old new text left

-- the whole text was written and the status stays, or a front was written, by a counted fault or for want of memory
abbrev pub IsTold : Status → List ℕ → (old new : Written) → Status → Type 0
IsTold status text old new result =
    ((result ≡ status) × Adds old new text)
    ⊎ ((result ≡ WriteFault) × AddsFront old new text × Rose old.faults new.faults)
    ⊎ ((result ≡ Memory) × AddsFront old new text)
