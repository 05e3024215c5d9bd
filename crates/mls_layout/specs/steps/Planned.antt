-- Trees whose numbers are known before they are pushed, so that nodes before them can name them.
use Rattle.std.specs.Prelude.{◌≡◌, ◌⊎◌, ◌↔◌, ℕ, ◌<◌, ◌+◌, List, [], ◌∷◌, ◌++◌, length, slice_get, Some, All}
use Rattle.std.specs.BTreeMap.{BTreeMap, get}
use Rattle.std.specs.Ordering.{nat_cmp}
use Rattle.mls_book.specs.declared.book.NodeId.{NodeId}
use Rattle.mls_book.specs.declared.book.Node.{Node}
use Rattle.mls_book.specs.Books.{IsBook}
use Rattle.mls_automaton.specs.declared.automaton.Polarity.{Polarity}
use Rattle.mls_layout.specs.declared.tree.PlannedTree.{PlannedTree}
use Rattle.mls_layout.specs.Trees.{IsTree, IsNodeIn, IsOfTree, tree_size, tree_root}

-- trees that are to be pushed one after another, where the first node that they add gets this number
pub record Planned : Type 0 where
  pub start : ℕ
  pub trees : List PlannedTree

-- how many nodes trees add
abbrev pub sizes : List PlannedTree → ℕ
sizes [] = 0
sizes (tree ∷ trees) = tree_size tree.members + sizes trees

-- the number of the node behind them
abbrev pub end_of : Planned → ℕ
end_of plan = plan.start + sizes plan.trees

abbrev pub planned_tree : Polarity → List NodeId → PlannedTree
planned_tree p members = record { polarity = p; members = members }

-- one tree more
abbrev pub with_tree : Planned → Polarity → List NodeId → Planned
with_tree plan p members = record { start = plan.start; trees = plan.trees ++ planned_tree p members ∷ [] }

-- the members of each tree come before the nodes that it adds
abbrev pub AreLow : ℕ → List PlannedTree → Type 0
AreLow start [] = Unit {0}
AreLow start (tree ∷ trees) =
    All (λ (id : NodeId). id.0 < start) tree.members × AreLow (start + tree_size tree.members) trees

-- what holds of the parts of planned trees
pub record IsCounted (start end : ℕ) (trees : List PlannedTree) : Type 0 where
  pub counted : end ≡ start + sizes trees
  pub low : AreLow start trees

-- node i is to be the tree of these members
abbrev pub IsRootIn : ℕ → List PlannedTree → Polarity → List NodeId → ℕ → Type 0
IsRootIn start [] p members i = ⊥
IsRootIn start (tree ∷ trees) p members i =
    ((planned_tree p members ≡ tree) × (i ≡ tree_root start members))
    ⊎ IsRootIn (start + tree_size tree.members) trees p members i

-- what is found is the place of a tree and its number
pub record IsNumberOf (start end : ℕ) (trees : List PlannedTree) (found : ℕ × NodeId) : Type 0 where
  pub tree : PlannedTree
  pub there : slice_get trees found.0 ≡ Some tree
  pub root : IsRootIn start trees tree.polarity tree.members found.1.0
  pub low : found.1.0 < end

abbrev pub AreKnown : ℕ → ℕ → List PlannedTree → BTreeMap ℕ (ℕ × NodeId) → Type 0
AreKnown start end trees known =
    (sum : ℕ) (found : ℕ × NodeId) → get nat_cmp known sum ≡ Some found → IsNumberOf start end trees found

abbrev pub IsRoot : Planned → Polarity → List NodeId → ℕ → Type 0
IsRoot plan p members i = IsRootIn plan.start plan.trees p members i

-- node i is the one member
abbrev pub IsOne : List NodeId → ℕ → Type 0
IsOne [] i = ⊥
IsOne (one ∷ []) i = i ≡ one.0
IsOne (one ∷ other ∷ rest) i = ⊥

-- node i is to be the tree of these members, or is the only one, which needs no tree
abbrev pub IsPlaced : Planned → Polarity → List NodeId → ℕ → Type 0
IsPlaced plan p members i = IsOne members i ⊎ IsRoot plan p members i

-- node i is to be the tree of just such members
pub record HasTree (plan : Planned) (p : Polarity) (IsMember : ℕ → Type 0) (i : ℕ) : Type 0 where
  pub members : List NodeId
  pub root : IsPlaced plan p members i
  pub low : i < end_of plan
  pub same : (j : ℕ) → IsNodeIn members j ↔ IsMember j

-- more trees behind
pub record Extends (old new : Planned) : Type 0 where
  pub start : new.start ≡ old.start
  pub more : List PlannedTree
  pub trees : new.trees ≡ old.trees ++ more

-- The second book is the first and the planned trees.
pub record AddsPlanned (plan : Planned) (old new : List Node) : Type 0 where
  pub more : List Node
  pub longer : new ≡ old ++ more
  pub are : All IsOfTree more
  pub size : length new ≡ end_of plan
  pub is_book : IsBook old → IsBook new
  pub roots : IsBook old → (p : Polarity) (members : List NodeId) (i : ℕ) → IsRoot plan p members i
      → (i < length new) × IsTree new p (IsNodeIn members) i
