-- The nodes of the states of a type that was read, in a book that begins with its nodes.
use Rattle.std.specs.Prelude.{◌≡◌, ◌⊎◌, ℕ, zero, suc, ◌<◌, ◌≤◌, ◌==◌, ◌||◌, Bool, true, false, if◌then◌else◌, is_some}
use Rattle.std.specs.Prelude.{List, [], ◌∷◌, ◌++◌, length, Option, Some, None}
use Rattle.std.specs.List.{flat_map, list_any}
use Rattle.mls_book.specs.declared.book.Node.{Node}
use Rattle.mls_book.specs.Books.{node_at}
use Rattle.mls_automaton.specs.declared.automaton.Arms.{Arms}
use Rattle.mls_automaton.specs.declared.automaton.FieldSet.{FieldSet}
use Rattle.mls_automaton.specs.declared.automaton.Flow.{Flow}
use Rattle.mls_automaton.specs.declared.automaton.Head.{Head}
use Rattle.mls_automaton.specs.declared.automaton.Polarity.{Polarity}
use Rattle.mls_automaton.specs.declared.automaton.Polarity.TheVariants.{Positive, Negative}
use Rattle.mls_automaton.specs.declared.scheme.Scheme.{Scheme}
use Rattle.mls_automaton.specs.Automata.{Automaton, head_at, polarity_at}
use Rattle.mls_automaton.specs.Models.{IsDeterministic}
use Rattle.mls_typetext.specs.declared.scheme.ReadScheme.{ReadScheme}
use Rattle.mls_layout.specs.declared.layout.Places.{Places}
use Rattle.mls_layout.specs.LaidOut.{place_of}
use Rattle.mls_layout.specs.Layouts.{IsTypeLayout}
use Rattle.mls_layout.specs.Trees.{none_node}

-- the states that the function of a head names, and those that its record names
abbrev pub arm_names : Option Arms → List ℕ
arm_names None = []
arm_names (Some arms) = arms.domain ++ arms.codomain

abbrev pub record_names : Option (List FieldSet) → List ℕ
record_names None = []
record_names (Some fields) = flat_map (λ (field : FieldSet). field.set) fields

-- whether a head has a part
abbrev pub has_part : Head → Bool
has_part h = h.boolean || h.integer || is_some h.function || is_some h.fields

-- a state, if it is to be named
abbrev pub own_if : Bool → ℕ → List ℕ
own_if true s = s ∷ []
own_if false s = []

-- the state itself, if its head has a part, and the states that its head names
abbrev pub state_names : ℕ → Head → List ℕ
state_names s h = own_if (has_part h) s ++ arm_names h.function ++ record_names h.fields

-- those of the first n states
abbrev pub names_below : Automaton → ℕ → List ℕ
names_below a zero = []
names_below a (suc n) = names_below a n ++ state_names n (head_at a n)

-- the states at both ends of an edge
abbrev pub flow_ends : Flow → List ℕ
flow_ends f = f.negative.0 ∷ f.positive.0 ∷ []

-- the states of a type that something names, or that have something: the root, the ends of edges, those whose heads have
-- a part, and those that heads name
abbrev pub states_in_use : Scheme → List ℕ
states_in_use s =
    (s.root.0 ∷ flat_map flow_ends s.automaton.flows) ++ names_below s.automaton (length s.automaton.states)

-- whether the number is one of these
abbrev pub is_in : List ℕ → ℕ → Bool
is_in xs x = list_any (λ y. y == x) xs

-- the node of no member for each polarity
abbrev pub none_at : (bot top : ℕ) → Polarity → ℕ
none_at bot top Positive = bot
none_at bot top Negative = top

-- the node of a state: one in use has the node of its own number, and any other that of no member
abbrev pub used_place : Scheme → (bot top : ℕ) → ℕ → ℕ
used_place s bot top q = if is_in (states_in_use s) q then q else none_at bot top (polarity_at s.automaton q)

-- all states of the type have these places
pub record AreReadPlaces (s : Scheme) (bot top : ℕ) (places : Places) : Type 0 where
  pub inside : (q : ℕ) → q < length s.automaton.states → place_of places q ≡ used_place s bot top q
  pub past : (q : ℕ) → length s.automaton.states ≤ q → place_of places q ≡ bot

-- The type that was read is laid out in the book: its root stands at the node that was read as such, each place is a node
-- that was read or that of no member, all of them are in the book and are a layout of its automaton, and that is
-- deterministic.
pub record IsReadLaid (read : ReadScheme) (book : List Node) (s : Scheme) (places : Places) : Type 0 where
  pub root : place_of places s.root.0 ≡ read.root.0
  pub nodes : (q : ℕ) → (place_of places q < length read.book)
      ⊎ ((p : Polarity) × (node_at book (place_of places q) ≡ none_node p))
  pub inside : (q : ℕ) → place_of places q < length book
  pub layout : IsTypeLayout book s.automaton (place_of places)
  pub deterministic : IsDeterministic s.automaton
