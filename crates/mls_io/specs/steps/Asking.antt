-- What asking the members of a search path in turn does.
use Rattle.std.specs.Prelude.{◌≡◌, ◌⊎◌, ℕ, List}
use Rattle.mls_io.specs.Stores.{Holdings}
use Rattle.mls_io.specs.Paths.{EachMisses, StopsEarly}
use Rattle.mls_io.specs.declared.store.Fetch.{Fetch}
use Rattle.mls_io.specs.declared.store.Fetch.TheVariants.{Missing}

-- no member had the file
pub record HasNone (olds news : List Holdings) (name : List ℕ) (before after : List ℕ) (answer : Fetch) : Type 0 where
  pub missed : EachMisses name olds news
  pub unchanged : after ≡ before
  pub answers : answer ≡ Missing

-- the members were asked in turn until one answered otherwise than that it has no such file
abbrev pub AskedInTurn : List Holdings → List Holdings → List ℕ → ℕ → List ℕ → List ℕ → Fetch → Type 0
AskedInTurn olds news name limit before after answer =
    HasNone olds news name before after answer ⊎ StopsEarly olds news name limit before after answer
