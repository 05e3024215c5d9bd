-- How the pairs are gathered that the rules name for wanted ones.
use Rattle.std.specs.Prelude.{◌≡◌, ◌↔◌, ℕ, ◌<◌, Bool, List, ◌++◌, length, get_or, Contains, Option}
use Rattle.mls_book.specs.declared.book.Node.{Node}
use Rattle.mls_deriv.specs.declared.derivation.Mode.{Mode}
use Rattle.mls_deriv.specs.declared.claim.Pair.{Pair}
use Rattle.mls_deriv.specs.Pairs.{Claims}
use Rattle.mls_deriv.specs.inner.Tables.{Holds, put_in}
use Rattle.mls_pairs.specs.declared.found.Found.{Found}
use Rattle.mls_pairs.specs.PairLists.{StaysInside}
use Rattle.mls_pairs.specs.steps.Needs.{IsPlainNode, needs_by}

-- the table has just the pairs of the list
abbrev pub IsFound : Found → Type 0
IsFound f = (mode : Mode) (i j : ℕ) → Holds f.table mode i j ↔ Claims f.pairs mode i j

-- the list has these pairs, behind those that it had, and no others
pub record Finds (old new : Found) (pairs : List Pair) : Type 0 where
  pub is : IsFound new
  pub more : List Pair
  pub behind : new.pairs ≡ old.pairs ++ more
  pub only : (pair : Pair) → Contains more pair → Contains pairs pair
  pub has : (pair : Pair) → Contains pairs pair → Contains new.pairs pair
  pub puts : (x : ℕ) → put_in new.table x ≡ put_in old.table x

-- the list has what is gathered for the pair, if it needs any
pub record FindsNeeds (alone : Bool) (book : List Node) (put : ℕ → Option ℕ) (old new : Found) (pair : Pair) :
    Type 0 where
  pub needs : List Pair
  pub finds : Finds old new needs
  pub are : (IsPlainNode pair → ⊥) → needs ≡ needs_by alone book put pair
  pub named : (other : Pair) → Contains needs other → Contains (needs_by alone book put pair) other

-- the list has what is gathered for those of its first pairs, up to this number, that need any
abbrev pub IsGathered : (alone : Bool) → List Node → (ℕ → Option ℕ) → ℕ → List Pair → Type 0
IsGathered alone book put n pairs =
    (k : ℕ) (pair : Pair) → k < n → k < length pairs → get_or pairs k pair ≡ pair → (IsPlainNode pair → ⊥)
    → (other : Pair) → Contains (needs_by alone book put pair) other → Contains pairs other

-- the list has the wanted pairs, and all that is gathered for those of its own that need any
pub record IsClosedList (alone : Bool) (book : List Node) (put : ℕ → Option ℕ) (wanted pairs : List Pair) :
    Type 0 where
  pub has_wanted : (pair : Pair) → Contains wanted pair → Contains pairs pair
  pub closed : (pair other : Pair) → Contains pairs pair → (IsPlainNode pair → ⊥)
      → Contains (needs_by alone book put pair) other → Contains pairs other

-- the wanted pairs are found, and what is gathered for the first pairs of the list
pub record IsGrowing (alone : Bool) (book : List Node) (put : ℕ → Option ℕ) (wanted : List Pair) (n : ℕ) (f : Found) :
    Type 0 where
  pub is : IsFound f
  pub has_wanted : (pair : Pair) → Contains wanted pair → Contains f.pairs pair
  pub gathered : IsGathered alone book put n f.pairs
  pub inside : StaysInside book put wanted f.pairs
  pub puts : (x : ℕ) → put_in f.table x ≡ put x
