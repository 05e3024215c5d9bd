-- What a sink was given, and what its answers say.
use Rattle.std.specs.Prelude.{◌≡◌, ℕ, List, ◌++◌, Option, is_some, option_map}
use Rattle.mls_io.specs.Counts.{Count, Grows, Rose}

-- the bytes so far, where the sink tells them, and how often writing failed
pub record Written : Type 0 where
  pub bytes : Option (List ℕ)
  pub faults : Count

-- whether the sink tells does not change, and the count of faults does not fall
pub record Follows (old new : Written) : Type 0 where
  pub told : is_some new.bytes ≡ is_some old.bytes
  pub faults : Grows old.faults new.faults

-- where told, the bytes are those before and then these
abbrev pub Adds : Written → Written → List ℕ → Type 0
Adds old new added = new.bytes ≡ option_map (λ bytes. bytes ++ added) old.bytes

-- the whole piece was added
abbrev pub TakesAll : Written → Written → List ℕ → Type 0
TakesAll = Adds

-- the faults rose, and a part of the piece from its start was added
pub record TakesSome (old new : Written) (piece : List ℕ) : Type 0 where
  pub counted : Rose old.faults new.faults
  pub taken : List ℕ
  pub left : List ℕ
  pub parts : piece ≡ taken ++ left
  pub adds : Adds old new taken

-- nothing was added
abbrev pub TakesNone : Written → Written → Type 0
TakesNone old new = new.bytes ≡ old.bytes
