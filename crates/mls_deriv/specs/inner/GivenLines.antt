-- What lines have given, as sets hold it.
use Rattle.std.specs.Prelude.{◌≡◌, ◌↔◌, ℕ, List, Contains, Option, Some, None, IsTrue}
use Rattle.std.specs.BTreeSet.{BTreeSet, contains}
use Rattle.std.specs.Ordering.{nat_cmp}
use Rattle.mls_deriv.specs.declared.stand.GivenLines.{GivenLines}
use Rattle.mls_deriv.specs.Texts.{Given}

-- the set has the numbers of the list
abbrev pub Holds : List ℕ → BTreeSet ℕ → Type 0
Holds xs set = (x : ℕ) → IsTrue (contains nat_cmp set x) ↔ Contains xs x

-- both are there or none
abbrev pub Puts : Option (List ℕ) → Option (BTreeSet ℕ) → Type 0
Puts None None = Unit {0}
Puts (Some xs) (Some set) = Holds xs set
Puts _ _ = ⊥

pub record IsGiven (g : Given) (held : GivenLines) : Type 0 where
  pub steps : held.steps ≡ g.steps
  pub lets : Holds g.lets held.lets
  pub puts : Puts g.puts held.puts

-- a `put` line of the variable may stand here
abbrev pub MayPut : Given → ℕ → Type 0
MayPut g x = (xs : List ℕ) × (g.puts ≡ Some xs) × (Contains xs x → ⊥)
