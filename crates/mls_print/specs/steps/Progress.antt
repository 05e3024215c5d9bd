-- How far the layout of a text is.
use Rattle.std.specs.Prelude.{◌≡◌, ℕ, ◌<◌, ◌≤◌, ◌==◌, Bool, codes, List, [], ◌∷◌, ◌++◌, length, map, get_or, reverse}
use Rattle.std.specs.Prelude.{All, Option, Some, None, if◌then◌else◌}
use Rattle.mls_automaton.specs.declared.automaton.Polarity.TheVariants.{Positive}
use Rattle.mls_automaton.specs.Automata.{Automaton}
use Rattle.mls_automaton.specs.Models.{IsClosed}
use Rattle.mls_print.specs.declared.components.Item.{Item as LaidItem}
use Rattle.mls_print.specs.declared.components.Item.TheVariants as laid
use Rattle.mls_print.specs.declared.layout.Printer.{Printer}
use Rattle.mls_print.specs.declared.piece.Layout.{Layout}
use Rattle.mls_print.specs.declared.piece.Piece.{Piece as LaidPiece}
use Rattle.mls_print.specs.declared.row.Table.{Table}
use Rattle.mls_print.specs.Walks.{Visits}
use Rattle.mls_print.specs.Shown.{Shown, Shows}
use Rattle.mls_print.specs.Keys.{sets_in}
use Rattle.mls_print.specs.Pieces.{Piece, bytes, opens, closes, pieces_of}
use Rattle.mls_print.specs.steps.Printing.{Place, Item, Tells}
use Rattle.mls_print.specs.steps.Tables.{set_at, IsTable}
use Rattle.mls_print.specs.steps.Visits.{IsVisited}
use Rattle.mls_print.specs.steps.Items.{item_of}
use Rattle.mls_print.specs.steps.Writing.{HasStateBelow, HasSetBelow, piece_of}

-- a set of the table around a place, and how many sets are shown before it
pub record Near : Type 0 where
  pub id : ℕ
  pub number : ℕ

abbrev pub places : Table → List Near → List Place
places table around = map (λ near. record { set = set_at table near.id; number = near.number }) around

abbrev pub outer : List Near → List Near
outer [] = []
outer (near ∷ far) = far

-- what the items tell inside these sets, up to where each set is left
abbrev pub told : Table → List Near → List LaidItem → List Item
told table around [] = []
told table around (laid.Leave n ∷ rest) = told table (outer around) rest
told table around (laid.Tell p ∷ rest) =
    item_of (set_at table) (places table around) (laid.Tell p) ∷ told table around rest
told table around (laid.Show p n ∷ rest) =
    item_of (set_at table) (places table around) (laid.Show p n) ∷ told table around rest
told table around (laid.ShowDomain p n ∷ rest) =
    item_of (set_at table) (places table around) (laid.ShowDomain p n) ∷ told table around rest

-- each set is left that is nearest there
abbrev pub LeavesNearest : List Near → ℕ → Type 0
LeavesNearest [] n = ⊥
LeavesNearest (near ∷ far) n = near.id ≡ n

abbrev pub IsNested : List Near → List LaidItem → Type 0
IsNested around [] = Unit {0}
IsNested around (laid.Leave n ∷ rest) = LeavesNearest around n × IsNested (outer around) rest
IsNested around (laid.Tell p ∷ rest) = IsNested around rest
IsNested around (laid.Show p n ∷ rest) = IsNested around rest
IsNested around (laid.ShowDomain p n ∷ rest) = IsNested around rest

-- the number of a set that is around
abbrev pub number_around : List Near → ℕ → Option ℕ
number_around [] n = None
number_around (near ∷ far) n = if near.id == n then Some near.number else number_around far n

abbrev pub AreApart : List Near → Type 0
AreApart [] = Unit {0}
AreApart (near ∷ far) = (number_around far near.id ≡ None) × AreApart far

-- the set of an item is in a table of so many sets
abbrev pub IsItemBelow : ℕ → LaidItem → Type 0
IsItemBelow n (laid.Tell p) = Unit {0}
IsItemBelow n (laid.Show p s) = s < n
IsItemBelow n (laid.ShowDomain p s) = s < n
IsItemBelow n (laid.Leave s) = s < n

-- the tree that is to be laid out
pub record Plan : Type 0 where
  pub automaton : Automaton
  pub order : List ℕ
  pub root : ℕ
  pub tree : Shown

pub record IsPlan (plan : Plan) (table : Table) : Type 0 where
  pub closed : IsClosed plan.automaton
  pub low : All (λ s. s < length plan.automaton.states) plan.order
  pub walked : Visits plan.automaton [] (plan.root ∷ []) plan.order
  pub root : IsVisited plan.automaton plan.order Positive plan.root
  pub tabled : IsTable plan.automaton plan.order plan.root table
  pub shows : Shows plan.automaton plan.order [] Positive (plan.root ∷ []) plan.tree

abbrev pub pieces_in : Plan → List Piece
pieces_in plan = pieces_of 0 [] plan.tree

-- an item names what is there
abbrev pub IsSound : Plan → Table → LaidItem → Type 0
IsSound plan table (laid.Tell p) = HasStateBelow (length plan.automaton.states) p × HasSetBelow (sets_in plan.tree) p
IsSound plan table (laid.Show p s) = All (IsVisited plan.automaton plan.order p) (set_at table s)
IsSound plan table (laid.ShowDomain p s) = All (IsVisited plan.automaton plan.order p) (set_at table s)
IsSound plan table (laid.Leave s) = Unit {0}

-- the pieces so far and those that the items tell are those of the tree
pub record IsOnPlan (plan : Plan) (table : Table) (items : List LaidItem) (w : Printer) : Type 0 where
  pub around : List Near
  pub nested : IsNested around items
  pub apart : AreApart around
  pub below : All (λ near. near.id < length table.rows.items) around
  pub numbers : All (λ near. near.number < sets_in plan.tree) around
  pub shown : (s : ℕ) → s < length table.rows.items → get_or w.shown.items s None ≡ number_around around s
  pub sound : All (IsSound plan table) items
  pub left : List Piece
  pub whole : map piece_of w.pieces.items ++ left ≡ pieces_in plan
  pub tells : Tells plan.automaton plan.order w.sets (told table around items) left (sets_in plan.tree)
  pub states : All (HasStateBelow (length plan.automaton.states)) w.pieces.items
  pub sets : All (HasSetBelow (sets_in plan.tree)) w.pieces.items

-- what holds without a plan
pub record IsSafe (table : Table) (w : Printer) : Type 0 where
  pub shown : length w.shown.items ≡ length table.rows.items
  pub items : All (IsItemBelow (length table.rows.items)) w.items.items
  pub count : w.sets ≤ length w.pieces.items

-- an item is done with
pub record Advances (table : Table) (item : LaidItem) (old new : Printer) : Type 0 where
  pub safe : IsSafe table old → IsSafe table new
  pub on_plan : (plan : Plan) → IsPlan plan table → IsOnPlan plan table (item ∷ reverse old.items.items) old
      → IsOnPlan plan table (reverse new.items.items) new

-- the layout is that of the tree
pub record IsLaidOut (plan : Plan) (layout : Layout) : Type 0 where
  pub pieces : map piece_of layout.pieces.items ≡ pieces_in plan
  pub states : All (HasStateBelow (length plan.automaton.states)) layout.pieces.items
  pub sets : All (HasSetBelow layout.sets) layout.pieces.items

-- the pieces before and behind set j as a domain, which are sure where it is a function alone
pub record AreParens (sure : Bool) (j : ℕ) (before behind : LaidPiece) : Type 0 where
  pub opening : piece_of before ≡ (if sure then bytes (codes "(") else opens j)
  pub closing : piece_of behind ≡ (if sure then bytes (codes ")") else closes j)
  pub states : (n : ℕ) → HasStateBelow n before × HasStateBelow n behind
  pub sets : (n : ℕ) → j < n → HasSetBelow n before × HasSetBelow n behind
