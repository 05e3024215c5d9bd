-- Trees of joins, for positive places, and of meets, for negative places.
use Rattle.std.specs.Prelude.{◌≡◌, ◌<◌, ◌+◌, ℕ, List, [], ◌∷◌, ◌++◌, length, All, Contains}
use Rattle.mls_book.specs.declared.book.NodeId.{NodeId}
use Rattle.mls_book.specs.declared.book.Node.{Node}
use Rattle.mls_book.specs.declared.book.Node.TheVariants as node
use Rattle.mls_book.specs.Books.{node_at, IsBook}
use Rattle.mls_automaton.specs.declared.automaton.Polarity.{Polarity}
use Rattle.mls_automaton.specs.declared.automaton.Polarity.TheVariants.{Positive, Negative}
use Rattle.mls_layout.specs.declared.tree.PlannedTree.{PlannedTree}

-- the node of no member, and that of two trees
abbrev pub none_node : Polarity → Node
none_node Positive = node.Bot
none_node Negative = node.Top

abbrev pub two_node : Polarity → NodeId → NodeId → Node
two_node Positive l r = node.Join l r
two_node Negative l r = node.Meet l r

-- every member of the tree is of this kind
pub data HasOnly (book : List Node) (p : Polarity) (Member : ℕ → Type 0) : ℕ → Type 0 where
  member : {i : ℕ} → Member i → HasOnly book p Member i
  none : {i : ℕ} → node_at book i ≡ none_node p → HasOnly book p Member i
  two : {i : ℕ} (l r : NodeId) → node_at book i ≡ two_node p l r → HasOnly book p Member l.0
      → HasOnly book p Member r.0 → HasOnly book p Member i

-- the tree of node i has the member j
pub data HasMember (book : List Node) (p : Polarity) (j : ℕ) : ℕ → Type 0 where
  here : {i : ℕ} → i ≡ j → HasMember book p j i
  first : {i : ℕ} (l r : NodeId) → node_at book i ≡ two_node p l r → HasMember book p j l.0 → HasMember book p j i
  second : {i : ℕ} (l r : NodeId) → node_at book i ≡ two_node p l r → HasMember book p j r.0 → HasMember book p j i

-- node i is the join or the meet of just these members
pub record IsTree (book : List Node) (p : Polarity) (Member : ℕ → Type 0) (i : ℕ) : Type 0 where
  pub only : HasOnly book p Member i
  pub each : (j : ℕ) → Member j → HasMember book p j i

-- the nodes of these states
abbrev pub IsPlaceIn : (ℕ → ℕ) → List ℕ → ℕ → Type 0
IsPlaceIn place set i = (s : ℕ) × Contains set s × (place s ≡ i)

-- the node is one of these
abbrev pub IsNodeIn : List NodeId → ℕ → Type 0
IsNodeIn nodes i = Contains nodes (record { 0 = i })

-- how many nodes the tree of these members adds to a book
abbrev pub tree_size : List NodeId → ℕ
tree_size [] = 1
tree_size (one ∷ rest) = length rest

-- its number, where the first node that it adds gets this number
abbrev pub tree_root : ℕ → List NodeId → ℕ
tree_root start [] = start
tree_root start (one ∷ []) = one.0
tree_root start (one ∷ other ∷ rest) = start + length rest

-- the node is that of no member, or that of two trees
abbrev pub IsOfTree : Node → Type 0
IsOfTree node.Bot = Unit {0}
IsOfTree node.Top = Unit {0}
IsOfTree (node.Join l r) = Unit {0}
IsOfTree (node.Meet l r) = Unit {0}
IsOfTree _ = ⊥

-- The second book is the first and more nodes, and node i in it is the join or the meet of just these members. How many
-- nodes there are more, and which is the tree, is told by how many members there are.
pub record AddsTree (p : Polarity) (members : List NodeId) (old new : List Node) (i : ℕ) : Type 0 where
  pub more : List Node
  pub longer : new ≡ old ++ more
  pub are : All IsOfTree more
  pub size : length more ≡ tree_size members
  pub root : i ≡ tree_root (length old) members
  pub is_book : IsBook old → IsBook new
  pub inside : i < length new
  pub tree : IsTree new p (IsNodeIn members) i

-- these numbers are those of trees of the book, for one list of members after the other
abbrev pub AreTrees : List Node → List PlannedTree → List NodeId → Type 0
AreTrees book [] [] = Unit {0}
AreTrees book (tree ∷ trees) (id ∷ ids) =
    ((id.0 < length book) × IsTree book tree.polarity (IsNodeIn tree.members) id.0) × AreTrees book trees ids
AreTrees book _ _ = ⊥

-- each member is a number of the book
abbrev pub HasMembersIn : List Node → PlannedTree → Type 0
HasMembersIn book tree = All (λ (id : NodeId). id.0 < length book) tree.members

-- The second book is the first and more nodes, and has these trees.
pub record AddsTrees (trees : List PlannedTree) (old new : List Node) (ids : List NodeId) : Type 0 where
  pub more : List Node
  pub longer : new ≡ old ++ more
  pub is_book : IsBook old → IsBook new
  pub are : IsBook old → AreTrees new trees ids
