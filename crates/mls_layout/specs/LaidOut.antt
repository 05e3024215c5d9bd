-- What it is to lay out the nodes of a type, and those of a part behind those of its type.
use Rattle.std.specs.Prelude.{◌≡◌, ◌↔◌, ◌⊎◌, ℕ, ◌+◌, true, List, ◌++◌, get_or, slice_get, Contains, Some, None}
use Rattle.mls_book.specs.declared.book.NodeId.{NodeId}
use Rattle.mls_book.specs.declared.book.Node.{Node}
use Rattle.mls_book.specs.declared.book.Node.TheVariants as node
use Rattle.mls_book.specs.Books.{node_at, IsClosedBook}
use Rattle.mls_automaton.specs.declared.automaton.Flow.{Flow}
use Rattle.mls_automaton.specs.declared.scheme.Scheme.{Scheme}
use Rattle.mls_automaton.specs.Automata.{Automaton, head_at}
use Rattle.mls_solver.specs.Rooms.{Room, HoldsJust}
use Rattle.mls_subsume.specs.declared.verdict.StatePair.{StatePair}
use Rattle.mls_layout.specs.declared.layout.Places.{Places}
use Rattle.mls_layout.specs.declared.layout.numbers.Owned.{Owned}
use Rattle.mls_layout.specs.Layouts.{IsTypeLayout}
use Rattle.mls_layout.specs.Parts.{Constraint, IsRelatedIn, IsLaidOut}
use Rattle.mls_layout.specs.Uses.{Shows}

-- the second book is the first and more nodes
abbrev pub IsLonger : (old new : List Node) → Type 0
IsLonger old new = (more : List Node) × (new ≡ old ++ more)

-- the node of a state, and its number
abbrev pub node_of : Places → ℕ → NodeId
node_of places s = get_or places.nodes s places.past

abbrev pub place_of : Places → ℕ → ℕ
place_of places s = (node_of places s).0

-- edge number k begins or ends at the state
abbrev pub HasEnd : List Flow → (k s : ℕ) → Type 0
HasEnd flows k s = (edge : Flow) × (slice_get flows k ≡ Some edge)
    × ((edge.negative.0 ≡ s) ⊎ (edge.positive.0 ≡ s))

-- The second book is the first and more nodes, and the states of the type have these places in it. Each edge of the
-- type has a variable, numbered from `first` on in the order of the edges, and a state shows just the variables of the
-- edges that begin or end at it.
pub record IsTypeLaidOut (old : List Node) (b : Automaton) (first : ℕ) (new : List Node) (place : ℕ → ℕ) : Type 0
  where
    pub longer : IsLonger old new
    pub layout : IsTypeLayout new b place
    pub shown : (s x : ℕ) → Shows new layout.variables s x ↔ ((k : ℕ) × (x ≡ first + k) × HasEnd b.flows k s)

-- The function and the record of each state, and the nodes of `bool` and `int`, are parts of its head.
pub record HasOwnParts (book : List Node) (own : Owned) (bit number : NodeId) (a : Automaton) (parts : ℕ → List ℕ) : Type 0
  where
    pub functions : (s : ℕ) (id : NodeId) → get_or own.functions s None ≡ Some id → Contains (parts s) id.0
    pub records : (s : ℕ) (id : NodeId) → get_or own.records s None ≡ Some id → Contains (parts s) id.0
    pub boolean : (s : ℕ) → (head_at a s).boolean ≡ true → Contains (parts s) bit.0
    pub integer : (s : ℕ) → (head_at a s).integer ≡ true → Contains (parts s) number.0
    pub is_boolean : node_at book bit.0 ≡ node.Bool
    pub is_integer : node_at book number.0 ≡ node.Int

-- The second book is the first and more nodes, and the states have these places in it: whatever constraint over the
-- automaton has these related pairs, and whatever type has these places in the first book, both are laid out, and the
-- own nodes of states are parts of their heads.
pub record LaysOut (old : List Node) (a : Automaton) (found : Room) (walked : List StatePair) (type_place : ℕ → ℕ)
    (new : List Node) (place : ℕ → ℕ) (own : Owned) (bit number : NodeId) : Type 0 where
  pub more : List Node
  pub longer : new ≡ old ++ more
  pub closed : IsClosedBook new
  pub laid_out : (c : Constraint) (special : Scheme) → c.automaton ≡ a → HoldsJust found (IsRelatedIn c)
      → IsTypeLayout old special.automaton type_place → (it : IsLaidOut new c special walked place type_place)
      × HasOwnParts new own bit number a it.layout.parts
