-- The nodes that are known before the trees of a part: those of the parts of heads, and of the type.
use Rattle.std.specs.Prelude.{◌≡◌, ◌↔◌, ◌⊎◌, ℕ, ◌<◌, ◌+◌, Bool, true, false, List, [], ◌∷◌, ◌++◌, length, get_or}
use Rattle.std.specs.Prelude.{is_some, zero, suc}
use Rattle.mls_book.specs.declared.book.NodeId.{NodeId}
use Rattle.mls_book.specs.declared.book.Node.{Node}
use Rattle.mls_book.specs.declared.book.Node.TheVariants as node
use Rattle.mls_automaton.specs.declared.automaton.Head.{Head}
use Rattle.mls_automaton.specs.declared.automaton.Polarity.{Polarity}
use Rattle.mls_automaton.specs.declared.automaton.Polarity.TheVariants.{Positive, Negative}
use Rattle.mls_automaton.specs.Automata.{Automaton, head_at, HasFlow}
use Rattle.mls_subsume.specs.declared.verdict.StatePair.{StatePair}
use Rattle.mls_subsume.specs.Walks.{IsIn}
use Rattle.mls_layout.specs.declared.layout.leaves.Leaves.{Leaves}
use Rattle.mls_layout.specs.declared.layout.sources.Sources.{Sources}
use Rattle.mls_layout.specs.Trees.{IsNodeIn}

-- the leaves stand in the book, which is the first one and these
pub record AddsLeaves (old new : List Node) (leaves : Leaves) : Type 0 where
  pub longer : new ≡ old ++ node.Bool ∷ node.Int ∷ node.Bot ∷ []
  pub boolean : leaves.boolean.0 ≡ length old
  pub integer : leaves.integer.0 ≡ length old + 1
  pub nothing : leaves.nothing.0 ≡ length old + 2

-- a node where there is one
abbrev pub ids_if : Bool → NodeId → List NodeId
ids_if true id = id ∷ []
ids_if false id = []

abbrev pub count_if : Bool → ℕ
count_if true = 1
count_if false = 0

-- how many nodes of its own a head has: for its function and its record
abbrev pub own_count : Head → ℕ
own_count h = count_if (is_some h.function) + count_if (is_some h.fields)

-- the nodes of the parts of a head, of which its own ones have the numbers from this one on
abbrev pub head_parts : Leaves → ℕ → Head → List NodeId
head_parts leaves first h =
    ids_if h.boolean leaves.boolean ++ ids_if h.integer leaves.integer
    ++ ids_if (is_some h.function) (record { 0 = first })
    ++ ids_if (is_some h.fields) (record { 0 = first + count_if (is_some h.function) })

-- how many nodes of their own the states before this one have
abbrev pub own_before : Automaton → ℕ → ℕ
own_before a zero = 0
own_before a (suc s) = own_before a s + own_count (head_at a s)

-- the first states have these parts, where the nodes of their own have the numbers from `start` up to `end`
pub record AreParted (a : Automaton) (leaves : Leaves) (start n end : ℕ) (parts : List (List NodeId)) : Type 0 where
  pub size : length parts ≡ n
  pub counted : end ≡ start + own_before a n
  pub are : (s : ℕ) → s < n → get_or parts s [] ≡ head_parts leaves (start + own_before a s) (head_at a s)

-- for each of these states the nodes of the states of the type that it is paired with
pub record ArePartners (pairs : List StatePair) (type_place : ℕ → ℕ) (n : ℕ) (partners : List (List NodeId))
    : Type 0 where
  pub size : length partners ≡ n
  pub are : (s : ℕ) → s < n → (i : ℕ)
      → IsNodeIn (get_or partners s []) i ↔ ((t : ℕ) × IsIn pairs s t × (type_place t ≡ i))

abbrev pub parts_in : Sources → ℕ → List NodeId
parts_in sources s = get_or sources.parts s []

abbrev pub partners_in : Sources → ℕ → List NodeId
partners_in sources s = get_or sources.partners.items s []

-- a node of the head of a positive state, or of a partner of a state with an edge to it
abbrev pub IsOfState : Automaton → Sources → ℕ → ℕ → Type 0
IsOfState a sources p i =
    IsNodeIn (parts_in sources p) i ⊎ ((k : ℕ) × HasFlow a k p × IsNodeIn (partners_in sources k) i)

-- what flows in at a negative state; at a positive one it is nothing
abbrev pub IsEntering : Automaton → (IsRelated : ℕ → ℕ → Type 0) → Sources → Polarity → ℕ → ℕ → Type 0
IsEntering a IsRelated sources Positive n i = sources.nothing.0 ≡ i
IsEntering a IsRelated sources Negative n i =
    IsNodeIn (partners_in sources n) i ⊎ ((p : ℕ) × IsRelated p n × IsOfState a sources p i)

-- the values of the states with an edge to a positive state, and the value of a negative state
abbrev pub IsValued : Automaton → (value : ℕ → ℕ) → Polarity → ℕ → ℕ → Type 0
IsValued a value Positive s i = (n : ℕ) × HasFlow a n s × (value n ≡ i)
IsValued a value Negative s i = value s ≡ i

-- what a state is the tree of
abbrev pub IsPlaced : Automaton → Sources → (value : ℕ → ℕ) → Polarity → ℕ → ℕ → Type 0
IsPlaced a sources value p s i = IsNodeIn (parts_in sources s) i ⊎ IsValued a value p s i

-- nodes of this kind are added to the list
abbrev pub Gathers : (IsNew : ℕ → Type 0) → List NodeId → List NodeId → Type 0
Gathers IsNew old new = (i : ℕ) → IsNodeIn new i ↔ IsNodeIn old i ⊎ IsNew i

-- the known nodes stand before this number
pub record AreBelow (sources : Sources) (start : ℕ) : Type 0 where
  pub parts : (s i : ℕ) → IsNodeIn (parts_in sources s) i → i < start
  pub partners : (s i : ℕ) → IsNodeIn (partners_in sources s) i → i < start
  pub nothing : sources.nothing.0 < start

-- the node of this number
abbrev pub node_id : ℕ → NodeId
node_id n = record { 0 = n }
