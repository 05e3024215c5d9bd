-- The pairs that a step of a derivation needs: a list that justifies itself and has each wanted pair that can be shown.
use Rattle.std.specs.Prelude.{◌≡◌, ◌⊎◌, ℕ, ◌<◌, List, length, All, Contains, Option, Some}
use Rattle.mls_book.specs.declared.book.Node.{Node}
use Rattle.mls_book.specs.Books.{IsClosed}
use Rattle.mls_deriv.specs.declared.derivation.Mode.{Mode}
use Rattle.mls_deriv.specs.declared.claim.Pair.{Pair}
use Rattle.mls_deriv.specs.declared.claim.Put.{Put}
use Rattle.mls_deriv.specs.Pairs.{Claims, IsJustified, AreJustified}

-- the pair of these nodes
abbrev pub pair_of : Mode → ℕ → ℕ → Pair
pair_of mode i j = record { mode = mode; left = i; right = j }

-- the pair is not in the list
abbrev pub IsOutside : List Pair → Mode → ℕ → ℕ → Type 0
IsOutside pairs mode i j = Claims pairs mode i j → ⊥

-- No list that justifies itself has a refuted pair: a rule would have to name another refuted pair for it.
pub data IsRefuted (book : List Node) (puts : List Put) : Pair → Type 0 where
  refuted : {pair : Pair} (others : List Pair)
      → ((other : Pair) → Contains others other → IsRefuted book puts other)
      → (IsJustified book puts (IsOutside others) pair.mode pair.left pair.right → ⊥)
      → IsRefuted book puts pair

-- The list justifies itself, and has each wanted pair that is not refuted.
pub record IsPairList (book : List Node) (puts : List Put) (wanted pairs : List Pair) : Type 0 where
  pub justified : AreJustified book puts pairs
  pub has : (pair : Pair) → Contains wanted pair → Contains pairs pair ⊎ IsRefuted book puts pair

-- both nodes of the pair are below this number
abbrev pub IsInside : ℕ → Pair → Type 0
IsInside n pair = (pair.left < n) × (pair.right < n)

-- Each pair of the list has nodes of the book, where the book is closed, and the nodes that variables stand for and those
-- of each wanted pair are nodes of the book.
abbrev pub StaysInside : List Node → (put : ℕ → Option ℕ) → (wanted pairs : List Pair) → Type 0
StaysInside book put wanted pairs =
    IsClosed book → ((x m : ℕ) → put x ≡ Some m → m < length book) → All (IsInside (length book)) wanted
    → All (IsInside (length book)) pairs

-- a list that justifies itself has no refuted pair
abbrev pub JustifiedIsNotRefuted : Type 0
JustifiedIsNotRefuted =
    (book : List Node) (puts : List Put) (pairs : List Pair) (pair : Pair)
    → AreJustified book puts pairs → Contains pairs pair → IsRefuted book puts pair → ⊥
