-- The graph of a deterministic automaton: a node for each state, and one for each place at which a head names a state.
use Rattle.std.specs.Prelude.{◌≡◌, ◌⊎◌, ◌↔◌, ℕ, ◌+◌, ◌<◌, List, [], ◌∷◌, ◌++◌, length, get_or, map, Contains, Option}
use Rattle.std.specs.Prelude.{Some, None}
use Rattle.mls_automaton.specs.declared.automaton.Arms.{Arms}
use Rattle.mls_automaton.specs.declared.automaton.FieldSet.{FieldSet}
use Rattle.mls_automaton.specs.declared.automaton.Head.{Head}
use Rattle.mls_automaton.specs.Automata.{Automaton, head_at}
use Rattle.mls_shape.specs.declared.graph.Edge.{Edge}
use Rattle.mls_shape.specs.steps.Classes.{one_of}
use Rattle.mls_shape.specs.steps.Partitions.{listed}

-- the states that a head names, in the order of their places
abbrev pub function_children : Option Arms → List ℕ
function_children None = []
function_children (Some arms) = one_of arms.domain ∷ one_of arms.codomain ∷ []

abbrev pub field_children : Option (List FieldSet) → List ℕ
field_children None = []
field_children (Some fields) = map (λ (f : FieldSet). one_of f.set) fields

abbrev pub children : Head → List ℕ
children h = function_children h.function ++ field_children h.fields

-- a place of a list, and what stands there
abbrev pub IsPlace : List ℕ → Edge → Type 0
IsPlace named e = (e.place < length named) × (get_or named e.place 0 ≡ e.target)

-- the places of the heads of the first states
abbrev pub AreEdges : Automaton → ℕ → List Edge → Type 0
AreEdges a upto edges = (e : Edge) → Contains edges e ↔ ((e.source < upto) × IsPlace (children (head_at a e.source)) e)

abbrev pub AddsEdges : ℕ → List ℕ → List Edge → List Edge → Type 0
AddsEdges source named old new =
    (e : Edge) → Contains new e ↔ (Contains old e ⊎ ((e.source ≡ source) × IsPlace named e))

-- the edge of this number
abbrev pub edge_at : List Edge → ℕ → Edge
edge_at edges k = get_or edges k (record { source = 0; place = 0; target = 0 })

abbrev pub HasEndsBelow : ℕ → Edge → Type 0
HasEndsBelow n e = (e.source < n) × (e.target < n)

-- the node of an edge is a parent of the target, and the source is one of the node
abbrev pub IsParentBy : Edge → ℕ → ℕ → ℕ → Type 0
IsParentBy e node parent child = ((parent ≡ node) × (child ≡ e.target)) ⊎ ((parent ≡ e.source) × (child ≡ node))

pub record AddsParents (e : Edge) (node : ℕ) (old new : List (List ℕ)) : Type 0 where
  pub size : length new ≡ length old
  pub just : (x k : ℕ) → k < length old
      → Contains (listed new k) x ↔ (Contains (listed old k) x ⊎ IsParentBy e node x k)

-- the parents of each node, by the first edges
pub record AreParents (states : ℕ) (edges : List Edge) (upto : ℕ) (parents : List (List ℕ)) : Type 0 where
  pub size : length parents ≡ states + length edges
  pub just : (x k : ℕ) → k < states + length edges
      → Contains (listed parents k) x ↔ ((j : ℕ) × (j < upto) × IsParentBy (edge_at edges j) (states + j) x k)

-- the block of an edge at the beginning
abbrev pub colour : ℕ → Edge → ℕ
colour count e = count + e.place
