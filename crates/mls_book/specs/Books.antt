-- Books: lists of nodes that name one another by their numbers.
use Rattle.std.specs.Prelude.{◌≡◌, ℕ, ◌<◌, List, [], ◌∷◌, length, get_or, All, bytes_eq, find, option_map, Option}
use Rattle.std.specs.Ordering.{nat_cmp}
use Rattle.std.specs.declared.cmp.Ordering.TheVariants.{Less}
use Rattle.std.specs.Cmp.Lexicographic.{slice_cmp}
use Rattle.mls_book.specs.declared.book.Field.{Field}
use Rattle.mls_book.specs.declared.book.NodeId.{NodeId}
use Rattle.mls_book.specs.declared.book.Node.{Node}
use Rattle.mls_book.specs.declared.book.Node.TheVariants.{Bot, Arrow, Rcd, Join, Meet}

-- the node that a record has at this label
abbrev pub field_at : List ℕ → List Field → Option NodeId
field_at label fields = option_map (λ field. field.node) (find (λ field. bytes_eq field.label label) fields)

-- the labels rise strictly in byte order
abbrev pub AreRising : List Field → Type 0
AreRising [] = Unit {0}
AreRising (first ∷ rest) = All (λ later. slice_cmp nat_cmp first.label later.label ≡ Less) rest × AreRising rest

-- what a node of this number has to be: the children of a join or meet come before it, and labels rise
abbrev pub IsOrdered : ℕ → Node → Type 0
IsOrdered n (Join j k) = (j.0 < n) × (k.0 < n)
IsOrdered n (Meet j k) = (j.0 < n) × (k.0 < n)
IsOrdered n (Rcd fields) = AreRising fields
IsOrdered n _ = Unit {0}

-- the node of this number; past the end of a list of nodes it is `Bot`
abbrev pub node_at : List Node → ℕ → Node
node_at nodes i = get_or nodes i Bot

-- a book: each node is as its number demands
abbrev pub IsBook : List Node → Type 0
IsBook nodes = (i : ℕ) → IsOrdered i (node_at nodes i)

-- the children of a node are below this number
abbrev pub HasChildrenBelow : ℕ → Node → Type 0
HasChildrenBelow n (Arrow j k) = (j.0 < n) × (k.0 < n)
HasChildrenBelow n (Join j k) = (j.0 < n) × (k.0 < n)
HasChildrenBelow n (Meet j k) = (j.0 < n) × (k.0 < n)
HasChildrenBelow n (Rcd fields) = All (λ field. field.node.0 < n) fields
HasChildrenBelow n _ = Unit {0}

-- every child is in range
abbrev pub IsClosed : List Node → Type 0
IsClosed nodes = All (HasChildrenBelow (length nodes)) nodes

-- a book whose children are all in range
pub record IsClosedBook (nodes : List Node) : Type 0 where
  pub book : IsBook nodes
  pub closed : IsClosed nodes
