-- The order of the nodes of a part, and how the types of names are read where their variables stand for nodes of it.
use Rattle.std.specs.Prelude.{◌≡◌, ℕ, true, List, [], Some}
use Rattle.mls_automaton.specs.Automata.{Automaton}
use Rattle.mls_book.specs.declared.book.Node.{Node}
use Rattle.mls_deriv.specs.declared.derivation.Mode.{Mode}
use Rattle.mls_deriv.specs.declared.derivation.Mode.TheVariants.{Lr}
use Rattle.mls_deriv.specs.declared.claim.Put.{Put}
use Rattle.mls_deriv.specs.Pairs.{put_at}
use Rattle.mls_lines.specs.Conclusions.{IsUnread}
use Rattle.mls_layout.specs.Layouts.{PartClaims, IsItself}
use Rattle.mls_lines.specs.Orders.{InSomeSteps}
use Rattle.mls_layout.specs.Shown.{IsShown}
use Rattle.mls_layout.specs.Uses.{IsCopyOf, IsUseClaim}

-- what follows from the claims of a part, and the same in some steps
abbrev pub IsOneBelow : List Node → (a type : Automaton) → (IsRelated IsPair : ℕ → ℕ → Type 0) → (place type_place : ℕ
    → ℕ) → ℕ → ℕ → Type 0
IsOneBelow book a type IsRelated IsPair place type_place i j =
    IsShown book [] IsItself (PartClaims a type IsRelated IsPair place type_place) true Lr i j

abbrev pub IsBelow : List Node → (a type : Automaton) → (IsRelated IsPair : ℕ → ℕ → Type 0) → (place type_place : ℕ
    → ℕ) → ℕ → ℕ → Type 0
IsBelow book a type IsRelated IsPair place type_place =
    InSomeSteps (IsOneBelow book a type IsRelated IsPair place type_place)

-- `IsPlace v` are the places of the type that is known of the name at node v.
module _ (book : List Node) (a : Automaton) (place : ℕ → ℕ) (IsPlace : ℕ → ℕ → Type 0) (Own : ℕ → Type 0) where
  -- a claim of a use whose variables stand for their nodes
  pub record IsReadClaim (puts : List Put) (mode : Mode) (i j : ℕ) : Type 0 where
    pub at : ℕ
    pub top : ℕ
    pub copied : IsCopyOf book a place (IsPlace at) top
    pub same : (x n : ℕ) → put_at copied.puts x ≡ Some n → put_at puts x ≡ Some n
    pub claim : IsUseClaim (IsPlace at) copied.sign place copied.known_place copied.copy mode i j

  -- a node that is read as it stands, and itself
  abbrev pub IsUnreadItself : List Put → Mode → ℕ → ℕ → Type 0
  IsUnreadItself puts mode i j = IsUnread book Own puts i × (i ≡ j)

  -- what follows from the claims of uses
  abbrev pub IsRead : List Put → Mode → ℕ → ℕ → Type 0
  IsRead puts mode i j = IsShown book puts (IsUnreadItself puts) (IsReadClaim puts) true mode i j
