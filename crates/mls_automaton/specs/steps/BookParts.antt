-- The book of an automaton, part by part: for each state a chain over its edges; then for each state eight nodes, the
-- last of which is its own; then for each state a chain over each set that its head names.
use Rattle.std.specs.Prelude.{◌≡◌, ◌↔◌, ℕ, zero, suc, ◌+◌, ◌*◌, ◌<◌, Bool, true, false, List, [], ◌∷◌, ◌++◌, map}
use Rattle.std.specs.Prelude.{length, get_or, All, Contains, Option, Some, None}
use Rattle.mls_book.specs.declared.book.Field.{Field}
use Rattle.mls_book.specs.declared.book.NodeId.{NodeId}
use Rattle.mls_book.specs.declared.book.Node.{Node}
use Rattle.mls_book.specs.declared.book.Node.TheVariants as node
use Rattle.mls_automaton.specs.declared.automaton.Polarity.{Polarity}
use Rattle.mls_automaton.specs.declared.automaton.Polarity.TheVariants.{Positive, Negative}
use Rattle.mls_automaton.specs.declared.automaton.Arms.{Arms}
use Rattle.mls_automaton.specs.declared.automaton.FieldSet.{FieldSet}
use Rattle.mls_automaton.specs.declared.automaton.Head.{Head}
use Rattle.mls_automaton.specs.declared.automaton.Flow.{Flow}
use Rattle.mls_automaton.specs.declared.scheme.EnvEntry.{EnvEntry}
use Rattle.mls_automaton.specs.declared.scheme_book.EnvNode.{EnvNode}
use Rattle.mls_automaton.specs.Automata.{Automaton, IsPartner, flow, head_at, opposite, polarity_at}

abbrev pub id : ℕ → NodeId
id i = record { 0 = i }

abbrev pub none_node : Polarity → Node
none_node Positive = node.Bot
none_node Negative = node.Top

abbrev pub both_node : Polarity → ℕ → ℕ → Node
both_node Positive j k = node.Join (id j) (id k)
both_node Negative j k = node.Meet (id j) (id k)

-- Behind node n, the nodes that join (or meet) it with the others, one by one.
abbrev pub joined : Polarity → ℕ → List ℕ → List Node
joined p n [] = []
joined p n (m ∷ rest) = both_node p n m ∷ joined p (suc n) rest

-- A set of nodes: where it begins at n, the last of these nodes is that of the set.
abbrev pub set_nodes : Polarity → ℕ → List ℕ → List Node
set_nodes p n members = none_node p ∷ joined p n members

-- The same of variables, each of which has a node of its own.
abbrev pub linked : Polarity → ℕ → List ℕ → List Node
linked p n [] = []
linked p n (x ∷ rest) = node.Var x ∷ both_node p n (suc n) ∷ linked p (suc (suc n)) rest

abbrev pub edge_nodes : Polarity → ℕ → List ℕ → List Node
edge_nodes p n variables = none_node p ∷ linked p n variables

-- the variable of an edge between two of so many states
abbrev pub variable_of : ℕ → Flow → ℕ
variable_of states f = f.negative.0 * states + f.positive.0

-- the edge between a state of this polarity and its partner
abbrev pub edge_of : Polarity → ℕ → ℕ → Flow
edge_of Positive s j = flow j s
edge_of Negative s j = flow s j

abbrev pub variables_of : Automaton → ℕ → List ℕ → List ℕ
variables_of a s partners = map (λ j. variable_of (length a.states) (edge_of (polarity_at a s) s j)) partners

-- The parts of a head, where the sets that it names begin at n.
abbrev pub bit_node : Polarity → Node → Bool → Node
bit_node p x false = none_node p
bit_node p x true = x

abbrev pub set_width : List ℕ → ℕ
set_width set = suc (length set)

abbrev pub function_width : Option Arms → ℕ
function_width None = 0
function_width (Some arms) = set_width arms.domain + set_width arms.codomain

abbrev pub function_node : Polarity → ℕ → Option Arms → Node
function_node p n None = none_node p
function_node p n (Some arms) =
    node.Arrow (id (n + length arms.domain)) (id (n + set_width arms.domain + length arms.codomain))

abbrev pub fields_width : List FieldSet → ℕ
fields_width [] = 0
fields_width (field ∷ rest) = set_width field.set + fields_width rest

abbrev pub fields_from : ℕ → List FieldSet → List Field
fields_from n [] = []
fields_from n (field ∷ rest) =
    record { label = field.label; node = id (n + length field.set) } ∷ fields_from (n + set_width field.set) rest

abbrev pub record_width : Option (List FieldSet) → ℕ
record_width None = 0
record_width (Some fields) = fields_width fields

abbrev pub record_node : Polarity → ℕ → Option (List FieldSet) → Node
record_node p n None = none_node p
record_node p n (Some fields) = node.Rcd (fields_from n fields)

abbrev pub head_width : Head → ℕ
head_width h = function_width h.function + record_width h.fields

abbrev pub part_nodes : Polarity → ℕ → Head → List Node
part_nodes p n h =
    bit_node p node.Bool h.boolean
    ∷ bit_node p node.Int h.integer
    ∷ function_node p n h.function
    ∷ record_node p (n + function_width h.function) h.fields
    ∷ []

-- The joins (or meets) of the four parts, which begin at m, and of the node of the edges.
abbrev pub join_nodes : Polarity → ℕ → ℕ → List Node
join_nodes p edges m = both_node p (m + 2) (m + 3) ∷ both_node p (m + 1) (m + 4) ∷ both_node p m
    (m + 5) ∷ both_node p edges (m + 6) ∷ []

-- the eight nodes of a state, which begin at m
abbrev pub state_nodes : Polarity → ℕ → ℕ → ℕ → Head → List Node
state_nodes p edges m n h = part_nodes p n h ++ join_nodes p edges m

abbrev pub start_at : ℕ → ℕ → ℕ
start_at first s = first + 8 * s

-- the node of a state, where those of the states begin at `first`
abbrev pub place_at : ℕ → ℕ → ℕ
place_at first s = first + 8 * s + 7

-- The chains over the sets of a head, from n on.
abbrev pub function_sets : Polarity → (ℕ → ℕ) → ℕ → Option Arms → List Node
function_sets p place n None = []
function_sets p place n (Some arms) =
    set_nodes (opposite p) n (map place arms.domain)
    ++ set_nodes p (n + set_width arms.domain) (map place arms.codomain)

abbrev pub fields_sets : Polarity → (ℕ → ℕ) → ℕ → List FieldSet → List Node
fields_sets p place n [] = []
fields_sets p place n (field ∷ rest) =
    set_nodes p n (map place field.set) ++ fields_sets p place (n + set_width field.set) rest

abbrev pub record_sets : Polarity → (ℕ → ℕ) → ℕ → Option (List FieldSet) → List Node
record_sets p place n None = []
record_sets p place n (Some fields) = fields_sets p place n fields

abbrev pub head_sets : Polarity → (ℕ → ℕ) → ℕ → Head → List Node
head_sets p place n h = function_sets p place n h.function
    ++ record_sets p place (n + function_width h.function) h.fields

-- how many nodes the sets of the states below k have
abbrev pub width_to : Automaton → ℕ → ℕ
width_to a zero = 0
width_to a (suc k) = width_to a k + head_width (head_at a k)

-- the list of nodes has this part from n on
pub record HasPart (nodes : List Node) (n : ℕ) (part : List Node) : Type 0 where
  pub front : List Node
  pub back : List Node
  pub is : nodes ≡ front ++ (part ++ back)
  pub at : length front ≡ n

-- node e is the last of the chain over the edges of a state
pub record HasEdges (nodes : List Node) (a : Automaton) (s e : ℕ) : Type 0 where
  pub partners : List ℕ
  pub are_partners : (j : ℕ) → Contains partners j ↔ IsPartner a s j
  pub start : ℕ
  pub part : HasPart nodes start (edge_nodes (polarity_at a s) start (variables_of a s partners))
  pub last : e + 1 ≡ start + length (edge_nodes (polarity_at a s) start (variables_of a s partners))

-- the children of functions and records are below this number
abbrev pub HasHeadBelow : ℕ → Node → Type 0
HasHeadBelow n (node.Arrow j k) = (j.0 < n) × (k.0 < n)
HasHeadBelow n (node.Rcd fields) = All (λ (field : Field). field.node.0 < n) fields
HasHeadBelow n _ = Unit {0}

-- the edges of the first k states are there
pub record AreEdges (a : Automaton) (k : ℕ) (nodes : List Node) (edges : List ℕ) : Type 0 where
  pub size : length edges ≡ k
  pub each : (s : ℕ) → s < k → HasEdges nodes a s (get_or edges s 0)
  pub heads : All (HasHeadBelow 0) nodes

-- the first k states are there, from `first` on, and their sets begin at `sets`
pub record AreStates (a : Automaton) (edges : List ℕ) (first sets k : ℕ) (nodes : List Node) : Type 0 where
  pub size : length nodes ≡ start_at first k
  pub each : (s : ℕ) → s < k → HasPart nodes (start_at first s)
      (state_nodes (polarity_at a s) (get_or edges s 0) (start_at first s) (sets + width_to a s) (head_at a s))
  pub heads : All (HasHeadBelow (sets + width_to a k)) nodes

-- the sets of the first k states are there
pub record AreSets (a : Automaton) (first sets k : ℕ) (nodes : List Node) : Type 0 where
  pub size : length nodes ≡ sets + width_to a k
  pub each : (s : ℕ) → s < k → HasPart nodes (sets + width_to a s)
      (head_sets (polarity_at a s) (place_at first) (sets + width_to a s) (head_at a s))

-- the whole book
pub record IsLaid (a : Automaton) (first : ℕ) (nodes : List Node) : Type 0 where
  pub edges : List ℕ
  pub has_edges : (s : ℕ) → s < length a.states → HasEdges nodes a s (get_or edges s 0)
  pub sets : ℕ
  pub has_states : (s : ℕ) → s < length a.states
      → HasPart nodes (start_at first s)
      (state_nodes (polarity_at a s) (get_or edges s 0) (start_at first s) (sets + width_to a s) (head_at a s))
  pub has_sets : (s : ℕ) → s < length a.states
      → HasPart nodes (sets + width_to a s)
      (head_sets (polarity_at a s) (place_at first) (sets + width_to a s) (head_at a s))
  pub heads : All (HasHeadBelow (length nodes)) nodes

-- the second list of nodes begins with the first
abbrev pub IsLonger : List Node → List Node → Type 0
IsLonger old new = (rest : List Node) × (new ≡ old ++ rest)

-- no function and no record was added
abbrev pub AddsNoHead : List Node → List Node → Type 0
AddsNoHead old new = (n : ℕ) → All (HasHeadBelow n) old → All (HasHeadBelow n) new

-- the node of this state is there
abbrev pub HasPlace : ℕ → List Node → ℕ → Type 0
HasPlace first nodes j = place_at first j < length nodes

abbrev pub env_node : ℕ → EnvEntry → EnvNode
env_node first entry = record { binder = entry.binder; node = id (place_at first entry.state.0) }

-- These partners were added behind the old nodes; the last node is that of all so far.
pub record IsEdgesSoFar (states : ℕ) (p : Polarity) (s : ℕ) (old : List Node) (partners : List ℕ) (new : List Node)
    (last : ℕ) : Type 0 where
  pub nodes : new ≡ old ++ edge_nodes p (length old) (map (λ j. variable_of states (edge_of p s j)) partners)
  pub end : last + 1 ≡ length new

-- The same of the members of a set.
pub record IsSetSoFar (p : Polarity) (first : ℕ) (old : List Node) (members : List ℕ) (new : List Node)
    (last : ℕ) : Type 0 where
  pub nodes : new ≡ old ++ set_nodes p (length old) (map (place_at first) members)
  pub end : last + 1 ≡ length new
