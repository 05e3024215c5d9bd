-- How pairs are deleted that the others do not justify.
use Rattle.std.specs.Prelude.{◌≡◌, ◌⊎◌, Bool, true, false, List, [], ◌∷◌, ◌++◌, Contains, IsSome}
use Rattle.mls_book.specs.declared.book.Node.{Node}
use Rattle.mls_deriv.specs.declared.claim.Pair.{Pair}
use Rattle.mls_deriv.specs.declared.claim.Put.{Put}
use Rattle.mls_deriv.specs.declared.table.Table.{Table}
use Rattle.mls_deriv.specs.Pairs.{put_at, Claims, IsJustified}
use Rattle.mls_deriv.specs.inner.PairRules.{IsShown}
use Rattle.mls_deriv.specs.inner.Tables.{Holds, put_in}
use Rattle.mls_pairs.specs.PairLists.{IsRefuted, StaysInside}
use Rattle.mls_pairs.specs.steps.Growth.{IsClosedList}
use Rattle.mls_pairs.specs.steps.Needs.{own_needs}

-- the second list is what the first has of this kind
pub data AreThose (IsOne : Pair → Type 0) : List Pair → List Pair → Type 0 where
  none : AreThose IsOne [] []
  kept : {pairs left : List Pair} (pair : Pair) → IsOne pair → AreThose IsOne pairs left
      → AreThose IsOne (pair ∷ pairs) (pair ∷ left)
  gone : {pairs left : List Pair} (pair : Pair) → (IsOne pair → ⊥) → AreThose IsOne pairs left
      → AreThose IsOne (pair ∷ pairs) left

-- the pair is justified by the list
abbrev pub IsJustifiedBy : List Node → List Put → List Pair → Pair → Type 0
IsJustifiedBy book puts pairs pair = IsJustified book puts (Claims pairs) pair.mode pair.left pair.right

-- the pair is shown by the table
abbrev pub IsShownBy : List Node → Table → Pair → Type 0
IsShownBy book table pair = IsShown book (put_in table) (Holds table) pair.mode pair.left pair.right

-- the pair is added where it is kept
abbrev pub AddsKept : Bool → Pair → List Pair → List Pair → Type 0
AddsKept is_kept pair old new = (is_kept ≡ true → new ≡ old ++ pair ∷ []) × (is_kept ≡ false → new ≡ old)

-- a list of the wanted pairs and all that is gathered for them; those that hold by themselves are told apart only where
-- no variable stands for a node
pub record IsWhole (book : List Node) (puts : List Put) (wanted pairs : List Pair) : Type 0 where
  pub alone : Bool
  pub none : alone ≡ true → puts ≡ []
  pub closed : IsClosedList alone book (put_at puts) wanted pairs
  pub inside : StaysInside book (put_at puts) wanted pairs

-- the list is what is left of such a list: what is gone is refuted, and what holds by itself stays
pub record IsLeft (book : List Node) (puts : List Put) (wanted pairs : List Pair) : Type 0 where
  pub first : List Pair
  pub whole : IsWhole book puts wanted first
  pub own : whole.alone ≡ true → (pair : Pair) → Contains first pair → IsSome (own_needs book pair) → Contains pairs pair
  pub gone : List Pair
  pub within : (pair : Pair) → Contains pairs pair → Contains first pair
  pub refuted : (pair : Pair) → Contains gone pair → IsRefuted book puts pair
  pub either : (pair : Pair) → Contains first pair → Contains pairs pair ⊎ Contains gone pair
