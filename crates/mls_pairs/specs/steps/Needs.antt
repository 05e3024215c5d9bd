-- The pairs that the rules name for a pair of nodes.
use Rattle.std.specs.Prelude.{◌≡◌, ◌==◌, ◌||◌, ℕ, Bool, true, false, cond, map, List, [], ◌∷◌, ◌++◌, Option, Some, None}
use Rattle.std.specs.List.{flat_map}
use Rattle.mls_book.specs.declared.book.Field.{Field}
use Rattle.mls_book.specs.declared.book.NodeId.{NodeId}
use Rattle.mls_book.specs.declared.book.Node.{Node}
use Rattle.mls_book.specs.declared.book.Node.TheVariants as node
use Rattle.mls_book.specs.Books.{node_at, field_at}
use Rattle.mls_deriv.specs.declared.derivation.Mode.{Mode}
use Rattle.mls_deriv.specs.declared.derivation.Mode.TheVariants.{Pp}
use Rattle.mls_deriv.specs.declared.claim.Pair.{Pair}
use Rattle.mls_deriv.specs.Pairs.{exchanged}
use Rattle.mls_deriv.specs.inner.PairRules.{left_node, right_node}
use Rattle.mls_pairs.specs.PairLists.{pair_of}

-- the pair with the node that a variable is read as
abbrev pub read_as : (ℕ → Pair) → Option ℕ → List Pair
read_as pair None = []
read_as pair (Some n) = pair n ∷ []

-- for the left node alone, where the right one is j
abbrev pub left_needs : (put : ℕ → Option ℕ) → Mode → ℕ → Node → List Pair
left_needs put mode j (node.Join l r) = pair_of mode l.0 j ∷ pair_of mode r.0 j ∷ []
left_needs put mode j (node.Meet l r) = pair_of mode l.0 j ∷ pair_of mode r.0 j ∷ []
left_needs put mode j (node.Var x) = read_as (λ n. pair_of Pp n j) (left_node mode put x)
left_needs put mode j _ = []

-- for the right node alone, where the left one is i
abbrev pub right_needs : (put : ℕ → Option ℕ) → Mode → ℕ → Node → List Pair
right_needs put mode i (node.Join l r) = pair_of mode i l.0 ∷ pair_of mode i r.0 ∷ []
right_needs put mode i (node.Meet l r) = pair_of mode i l.0 ∷ pair_of mode i r.0 ∷ []
right_needs put mode i (node.Var x) = read_as (λ n. pair_of Pp i n) (right_node mode put x)
right_needs put mode i _ = []

-- the pair with the left record's field of a label
abbrev pub label_needs : Mode → Option NodeId → NodeId → List Pair
label_needs mode None k = []
label_needs mode (Some m) k = pair_of mode m.0 k.0 ∷ []

abbrev pub field_needs : Mode → List Field → Field → List Pair
field_needs mode fields other = label_needs mode (field_at other.label fields) other.node

-- for both nodes
abbrev pub both_needs : Mode → Node → Node → List Pair
both_needs mode (node.Arrow a b) (node.Arrow c d) = pair_of (exchanged mode) c.0 a.0 ∷ pair_of mode b.0 d.0 ∷ []
both_needs mode (node.Rcd fields) (node.Rcd others) = flat_map (field_needs mode fields) others
both_needs mode _ _ = []

-- for these nodes of the pair
abbrev pub node_needs : (put : ℕ → Option ℕ) → Pair → (left right : Node) → List Pair
node_needs put pair left right =
    left_needs put pair.mode pair.right left
    ++ (right_needs put pair.mode pair.left right ++ both_needs pair.mode left right)

-- both sides are one node, and both are read plainly: such a pair needs no other
abbrev pub IsPlainNode : Pair → Type 0
IsPlainNode pair = (pair.mode ≡ Pp) × (pair.left ≡ pair.right)

-- for the pair
abbrev pub needs_of : List Node → (put : ℕ → Option ℕ) → Pair → List Pair
needs_of book put pair = node_needs put pair (node_at book pair.left) (node_at book pair.right)

-- What a pair needs that holds by itself, where variables stand for themselves: that of a node with itself needs those
-- of its parts,
abbrev pub self_needs : Mode → ℕ → Node → List Pair
self_needs mode i (node.Join l r) = pair_of mode l.0 i ∷ pair_of mode r.0 i ∷ []
self_needs mode i (node.Meet l r) = pair_of mode i l.0 ∷ pair_of mode i r.0 ∷ []
self_needs mode i (node.Arrow a b) = pair_of (exchanged mode) a.0 a.0 ∷ pair_of mode b.0 b.0 ∷ []
self_needs mode i (node.Rcd fields) = map (λ (field : Field). pair_of mode field.node.0 field.node.0) fields
self_needs mode i _ = []

-- and that of a member of a join with the join, or of a meet with a member, needs that of the member with itself.
abbrev pub is_member : Node → ℕ → Bool
is_member (node.Join l r) i = (l.0 == i) || (r.0 == i)
is_member _ i = false

abbrev pub has_member : Node → ℕ → Bool
has_member (node.Meet l r) j = (l.0 == j) || (r.0 == j)
has_member _ j = false

abbrev pub member_needs : Mode → (i j : ℕ) → (left right : Node) → Option (List Pair)
member_needs mode i j left right =
    cond (is_member right i) (Some (pair_of mode i i ∷ []))
    (cond (has_member left j) (Some (pair_of mode j j ∷ [])) None)

-- such a pair of these nodes
abbrev pub own_needs_at : Pair → (left right : Node) → Option (List Pair)
own_needs_at pair left right =
    cond (pair.left == pair.right) (Some (self_needs pair.mode pair.left left))
    (member_needs pair.mode pair.left pair.right left right)

abbrev pub own_needs : List Node → Pair → Option (List Pair)
own_needs book pair = own_needs_at pair (node_at book pair.left) (node_at book pair.right)

abbrev pub or_else : Option (List Pair) → List Pair → List Pair
or_else None others = others
or_else (Some own) others = own

-- what is gathered for the pair, where variables stand for themselves alone, or not
abbrev pub needs_by : (alone : Bool) → List Node → (put : ℕ → Option ℕ) → Pair → List Pair
needs_by true book put pair = or_else (own_needs book pair) (needs_of book put pair)
needs_by false book put pair = needs_of book put pair
