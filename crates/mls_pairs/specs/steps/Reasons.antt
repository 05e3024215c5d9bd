-- One reason for a pair of a list that justifies itself, and how a part of the list is chosen that keeps one for each.
use Rattle.std.specs.Prelude.{◌≡◌, ℕ, ◌<◌, List, [], ◌∷◌, length, get_or, All, Contains, Option}
use Rattle.mls_book.specs.declared.book.Field.{Field}
use Rattle.mls_book.specs.declared.book.NodeId.{NodeId}
use Rattle.mls_book.specs.declared.book.Node.{Node}
use Rattle.mls_book.specs.Books.{node_at}
use Rattle.mls_deriv.specs.declared.derivation.Mode.{Mode}
use Rattle.mls_deriv.specs.declared.claim.Pair.{Pair}
use Rattle.mls_deriv.specs.declared.table.Table.{Table}
use Rattle.mls_deriv.specs.Pairs.{Claims, exchanged}
use Rattle.mls_deriv.specs.inner.PairRules.{AllLabelsFit, ByBoth, ByLeft, ByNodes, ByRight}
use Rattle.mls_deriv.specs.inner.Tables.{Holds, put_in}
use Rattle.mls_pairs.specs.declared.found.Found.{Found}
use Rattle.mls_pairs.specs.PairLists.{pair_of}
use Rattle.mls_pairs.specs.steps.Growth.{Finds, IsFound}

-- the table has the pair
abbrev pub IsHeld : Table → Pair → Type 0
IsHeld table pair = Holds table pair.mode pair.left pair.right

-- the table shows a pair of these nodes
abbrev pub IsShownAt : Table → Pair → (left right : Node) → Type 0
IsShownAt table pair left right = ByNodes (put_in table) (Holds table) pair.mode pair.left pair.right left right

-- the pairs show this one by its left node, or by its right one, whatever variables stand for
abbrev pub LeftReason : Pair → Node → List Pair → Type 0
LeftReason pair left reason = (put : ℕ → Option ℕ) → ByLeft put (Claims reason) pair.mode pair.right left

abbrev pub RightReason : Pair → Node → List Pair → Type 0
RightReason pair right reason = (put : ℕ → Option ℕ) → ByRight put (Claims reason) pair.mode pair.left right

-- the same where variables stand for the nodes of the table
abbrev pub LeftVariable : Table → Pair → Node → List Pair → Type 0
LeftVariable table pair left reason = ByLeft (put_in table) (Claims reason) pair.mode pair.right left

abbrev pub RightVariable : Table → Pair → Node → List Pair → Type 0
RightVariable table pair right reason = ByRight (put_in table) (Claims reason) pair.mode pair.left right

-- the pairs of the ends of two functions, each with its domain and its codomain
abbrev pub AreEndPairs : Mode → (left right : NodeId × NodeId) → List Pair → Type 0
AreEndPairs mode left right reason =
    reason ≡ pair_of (exchanged mode) right.0.0 left.0.0 ∷ pair_of mode left.1.0 right.1.0 ∷ []

-- the pairs show that each field of the right record is in the left one and lower there
abbrev pub FieldsReason : Mode → (fields others : List Field) → List Pair → Type 0
FieldsReason mode fields others reason = AllLabelsFit (Claims reason) mode fields others

-- the pairs show this one by both nodes
abbrev pub BothReason : Pair → (left right : Node) → List Pair → Type 0
BothReason pair left right reason = (put : ℕ → Option ℕ) → ByBoth put (Claims reason) pair.mode left right

-- The table has these pairs, and they show the pair of these nodes.
pub record IsReasonFor (table : Table) (pair : Pair) (left right : Node) (reason : List Pair) : Type 0 where
  pub held : All (IsHeld table) reason
  pub shows : ByNodes (put_in table) (Claims reason) pair.mode pair.left pair.right left right

abbrev pub IsReasonOf : List Node → Table → Pair → List Pair → Type 0
IsReasonOf book table pair reason = IsReasonFor table pair (node_at book pair.left) (node_at book pair.right) reason

-- the list has the pairs of one reason for this pair, behind those that it had
abbrev pub AddsReason : List Node → Table → (old new : Found) → Pair → Type 0
AddsReason book table old new pair = (reason : List Pair) × IsReasonOf book table pair reason × Finds old new reason

-- the list shows its first pairs, up to this number
abbrev pub AreReasoned : List Node → (ℕ → Option ℕ) → ℕ → List Pair → Type 0
AreReasoned book put n pairs =
    (k : ℕ) (pair : Pair) → k < n → k < length pairs → get_or pairs k pair ≡ pair
    → ByNodes put (Claims pairs) pair.mode pair.left pair.right (node_at book pair.left) (node_at book pair.right)

-- the wanted pairs of the table are chosen, all from the table, and those of one reason for each of the first pairs
pub record IsChoosing (book : List Node) (table : Table) (wanted : List Pair) (n : ℕ) (f : Found) : Type 0 where
  pub is : IsFound f
  pub has_wanted : (pair : Pair) → Contains wanted pair → IsHeld table pair → Contains f.pairs pair
  pub held : (pair : Pair) → Contains f.pairs pair → IsHeld table pair
  pub reasoned : AreReasoned book (put_in table) n f.pairs

-- Pairs of a table that show each other, among them each wanted pair of the table.
pub record IsChosen (book : List Node) (table : Table) (wanted chosen : List Pair) : Type 0 where
  pub shown : (pair : Pair) → Contains chosen pair
      → ByNodes (put_in table) (Claims chosen) pair.mode pair.left pair.right (node_at book pair.left) (node_at book pair.right)
  pub held : (pair : Pair) → Contains chosen pair → IsHeld table pair
  pub has : (pair : Pair) → Contains wanted pair → IsHeld table pair → Contains chosen pair
