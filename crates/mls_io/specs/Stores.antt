-- What a store holds, and what its answers say.
use Rattle.std.specs.Prelude.{◌≡◌, ◌≢◌, ◌↔◌, ℕ, ◌<◌, ◌≤◌, List, ◌++◌, length, Option, Some, None, IfSome}
use Rattle.mls_base.specs.Files.{Files, bytes_at}
pub use Rattle.mls_io.specs.Counts.{Count, Grows, Rose}
use Rattle.mls_io.specs.declared.store.Fetch.{Fetch}
use Rattle.mls_io.specs.declared.store.Fetch.TheVariants.{Found, Missing, Long, Failed, Memory}

-- the files, where the store tells them, and how often a file could not be read, was missing, or was too long
pub record Holdings : Type 0 where
  pub files : Option Files
  pub faults : Count
  pub misses : Count
  pub longs : Count

-- no call changes the files, and no count falls
pub record Follows (old new : Holdings) : Type 0 where
  pub files : new.files ≡ old.files
  pub faults : Grows old.faults new.faults
  pub misses : Grows old.misses new.misses
  pub longs : Grows old.longs new.longs

-- at most `limit` bytes were added, and where told those of the file
pub record GivesFound (old : Holdings) (name : List ℕ) (limit : ℕ) (before after : List ℕ) : Type 0 where
  pub bytes : List ℕ
  pub added : after ≡ before ++ bytes
  pub within : length bytes ≤ limit
  pub told : IfSome old.files (λ files. bytes_at files name ≡ Some bytes)

-- the misses rose, and where told the answer Missing comes exactly if there is no such file, unless Failed or Memory
-- comes
pub record GivesMissing (old new : Holdings) (name : List ℕ) (answer : Fetch) : Type 0 where
  pub counted : answer ≡ Missing → Rose old.misses new.misses
  pub told : IfSome old.files (λ files. answer ≢ Failed → answer ≢ Memory
      → (answer ≡ Missing) ↔ (bytes_at files name ≡ None))

-- the longs rose, and where told the file has more than `limit` bytes
pub record GivesLong (old new : Holdings) (name : List ℕ) (limit : ℕ) : Type 0 where
  pub counted : Rose old.longs new.longs
  pub told : IfSome old.files (λ files. (bytes : List ℕ) × (bytes_at files name ≡ Some bytes) × (limit < length bytes))

-- the faults rose
abbrev pub GivesFailed : Holdings → Holdings → Type 0
GivesFailed old new = Rose old.faults new.faults

-- nothing was added, unless the file was found
abbrev pub KeepsUnlessFound : Fetch → List ℕ → List ℕ → Type 0
KeepsUnlessFound answer before after = answer ≢ Found → after ≡ before

-- all that a store says of an answer
pub record IsAsked (old new : Holdings) (name : List ℕ) (limit : ℕ) (before after : List ℕ)
    (answer : Fetch) : Type 0 where
  pub follows : Follows old new
  pub found : answer ≡ Found → GivesFound old name limit before after
  pub missing : GivesMissing old new name answer
  pub long : answer ≡ Long → GivesLong old new name limit
  pub failed : answer ≡ Failed → GivesFailed old new
  pub unchanged : KeepsUnlessFound answer before after
