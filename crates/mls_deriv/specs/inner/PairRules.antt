-- What the rules for pairs ask of two nodes, node by node.
use Rattle.std.specs.Prelude.{◌≡◌, ◌⊎◌, ℕ, List, Option, Some, None}
use Rattle.mls_book.specs.declared.book.Field.{Field}
use Rattle.mls_book.specs.declared.book.NodeId.{NodeId}
use Rattle.mls_book.specs.declared.book.Node.{Node}
use Rattle.mls_book.specs.declared.book.Node.TheVariants as node
use Rattle.mls_book.specs.Books.{node_at, field_at, AreRising}
use Rattle.mls_deriv.specs.declared.derivation.Mode.{Mode}
use Rattle.mls_deriv.specs.declared.derivation.Mode.TheVariants.{Lr, Rl, Pp}
use Rattle.mls_deriv.specs.Pairs.{exchanged}

-- the labels of the node rise, if it is a record
abbrev pub HasRisingLabels : Node → Type 0
HasRisingLabels (node.Rcd fields) = AreRising fields
HasRisingLabels _ = Unit {0}

-- a variable that reads as this node
abbrev pub IsReadAs : (ℕ → Type 0) → Option ℕ → Type 0
IsReadAs claim None = ⊥
IsReadAs claim (Some n) = claim n

-- the node that a variable reads as on the left side of a pair, and on the right side
abbrev pub left_node : Mode → (ℕ → Option ℕ) → ℕ → Option ℕ
left_node Lr put x = put x
left_node Rl put x = None
left_node Pp put x = None

abbrev pub right_node : Mode → (ℕ → Option ℕ) → ℕ → Option ℕ
right_node Lr put x = None
right_node Rl put x = put x
right_node Pp put x = None

module _ (put : ℕ → Option ℕ) (claims : Mode → ℕ → ℕ → Type 0) (mode : Mode) where
  -- the left node alone shows it, where the right node is j
  abbrev pub ByLeft : ℕ → Node → Type 0
  ByLeft j node.Bot = Unit {0}
  ByLeft j (node.Join l r) = claims mode l.0 j × claims mode r.0 j
  ByLeft j (node.Meet l r) = claims mode l.0 j ⊎ claims mode r.0 j
  ByLeft j (node.Var x) = IsReadAs (λ n. claims Pp n j) (left_node mode put x)
  ByLeft j _ = ⊥

  -- the right node alone shows it, where the left node is i
  abbrev pub ByRight : ℕ → Node → Type 0
  ByRight i node.Top = Unit {0}
  ByRight i (node.Meet l r) = claims mode i l.0 × claims mode i r.0
  ByRight i (node.Join l r) = claims mode i l.0 ⊎ claims mode i r.0
  ByRight i (node.Var x) = IsReadAs (λ n. claims Pp i n) (right_node mode put x)
  ByRight i _ = ⊥

  -- both nodes show it
  abbrev pub ByBoth : Node → Node → Type 0
  ByBoth node.Bool node.Bool = Unit {0}
  ByBoth node.Int node.Int = Unit {0}
  ByBoth (node.Var x) (node.Var y) = (x ≡ y) × (left_node mode put x ≡ None) × (right_node mode put x ≡ None)
  ByBoth (node.Arrow a b) (node.Arrow c d) = claims (exchanged mode) c.0 a.0 × claims mode b.0 d.0
  ByBoth (node.Rcd fields) (node.Rcd others) = (label : List ℕ) (k : NodeId) → field_at label others ≡ Some k
      → (m : NodeId) × (field_at label fields ≡ Some m) × claims mode m.0 k.0
  ByBoth _ _ = ⊥

  -- the pair of nodes i and j, which are these
  abbrev pub ByNodes : ℕ → ℕ → Node → Node → Type 0
  ByNodes i j left right = (ByLeft j left ⊎ ByRight i right) ⊎ (ByBoth left right ⊎ ((mode ≡ Pp) × (i ≡ j)))

-- where the right record has this label, the left one has it too, and the fields are claimed
abbrev pub LabelFits : (Mode → ℕ → ℕ → Type 0) → Mode → (fields others : List Field) → List ℕ → Type 0
LabelFits claims mode fields others label = (k : NodeId) → field_at label others ≡ Some k
    → (m : NodeId) × (field_at label fields ≡ Some m) × claims mode m.0 k.0

abbrev pub AllLabelsFit : (Mode → ℕ → ℕ → Type 0) → Mode → (fields others : List Field) → Type 0
AllLabelsFit claims mode fields others = (label : List ℕ) → LabelFits claims mode fields others label

-- the nodes i and j of a book show it
abbrev pub IsShown : List Node → (ℕ → Option ℕ) → (Mode → ℕ → ℕ → Type 0) → Mode → ℕ → ℕ → Type 0
IsShown book put claims mode i j = ByNodes put claims mode i j (node_at book i) (node_at book j)
