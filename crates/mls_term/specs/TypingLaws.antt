-- Laws of the rules of typing.
use Rattle.std.specs.Prelude.{◌≡◌, ℕ, slice_get, Some}
use Rattle.std.specs.FinMap as env
use Rattle.mls_book.specs.Schemes.{Scheme, IsScheme, Subsumes, AreEquivalent}
use Rattle.mls_term.specs.Terms.{TermTree, postorder}
use Rattle.mls_term.specs.Derivations.{Known, Derives, IsBest}

-- what is known are schemes
pub record AreSchemes (known : Known) : Type 0 where
  pub globals : (g : ℕ) (s : Scheme) → slice_get known.globals g ≡ Some s → IsScheme s
  pub lets : (k : ℕ) (s : Scheme) → env.get known.lets k ≡ Some s → IsScheme s

-- each scheme that the second knows is subsumed by one that the first knows under the same number
pub record IsMoreGeneral (first second : Known) : Type 0 where
  pub globals : (g : ℕ) (s : Scheme) → slice_get second.globals g ≡ Some s → (u : Scheme)
      × (slice_get first.globals g ≡ Some u) × Subsumes u s
  pub lets : (k : ℕ) (s : Scheme) → env.get second.lets k ≡ Some s → (u : Scheme) × (env.get first.lets k ≡ Some u)
      × Subsumes u s

-- every instance of a derivable scheme is derivable
abbrev pub InstancesDerive : Type 0
InstancesDerive =
    (known : Known) (t : TermTree) (s u : Scheme) → Derives known t s → Subsumes s u → IsScheme u → Derives known t u

-- a more general environment derives everything that a more special one does
abbrev pub MoreGeneralDerives : Type 0
MoreGeneralDerives =
    (first second : Known) (t : TermTree) (s : Scheme) → IsMoreGeneral first second → AreSchemes second
    → Derives second t s → Derives first t s

-- best schemes of one expression are equivalent
abbrev pub BestAreEquivalent : Type 0
BestAreEquivalent =
    (known : Known) (t : TermTree) (s u : Scheme) → IsBest known t s → IsBest known t u → AreEquivalent s u

-- and they are best in every environment that is as general
abbrev pub BestStays : Type 0
BestStays =
    (first second : Known) (t : TermTree) (s : Scheme) → IsMoreGeneral first second → IsMoreGeneral second first
    → AreSchemes first → AreSchemes second → IsBest first t s → IsBest second t s

-- a list of nodes is the postorder of one tree
abbrev pub OneTermTree : Type 0
OneTermTree = (t u : TermTree) → postorder 0 t ≡ postorder 0 u → t ≡ u
