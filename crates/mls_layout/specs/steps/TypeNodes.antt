-- The nodes of a type: the variables of its edges, and what its states are the trees of.
use Rattle.std.specs.Prelude.{◌≡◌, ◌↔◌, ◌⊎◌, ℕ, ◌<◌, ◌+◌, List, [], ◌++◌, length, get_or}
use Rattle.mls_book.specs.declared.book.NodeId.{NodeId}
use Rattle.mls_book.specs.declared.book.Node.{Node}
use Rattle.mls_book.specs.declared.book.Node.TheVariants as node
use Rattle.mls_automaton.specs.declared.automaton.Flow.{Flow}
use Rattle.mls_automaton.specs.Automata.{Automaton}
use Rattle.mls_layout.specs.declared.layout.leaves.Leaves.{Leaves}
use Rattle.mls_layout.specs.declared.layout.sources.Sources.{Sources}
use Rattle.mls_layout.specs.LaidOut.{HasEnd}
use Rattle.mls_layout.specs.Trees.{IsNodeIn}
use Rattle.mls_layout.specs.steps.Sources.{AddsLeaves, AreParted, parts_in, partners_in}

-- The second book is the first and the variables of the first n edges, numbered from `first` on. The list of each state
-- has the nodes of just those edges that begin or end at it.
pub record AddsVariables (states : ℕ) (flows : List Flow) (first n : ℕ) (old new : List Node)
    (lists : List (List NodeId)) : Type 0 where
  pub more : List Node
  pub longer : new ≡ old ++ more
  pub count : length more ≡ n
  pub are : (k : ℕ) → k < n → get_or more k node.Bot ≡ node.Var (first + k)
  pub size : length lists ≡ states
  pub just : (s i : ℕ) → s < states
      → IsNodeIn (get_or lists s []) i ↔ ((k : ℕ) × (k < n) × HasEnd flows k s × (i ≡ length old + k))

-- a part of the head of a state, or a variable of one of its edges
abbrev pub IsOfType : Sources → ℕ → ℕ → Type 0
IsOfType sources s i = IsNodeIn (parts_in sources s) i ⊎ IsNodeIn (partners_in sources s) i

-- The second book is the first, the variables of the edges, numbered from `first` on, and the leaves; functions and
-- records come behind these.
pub record AddsSources (a : Automaton) (first : ℕ) (old new : List Node) (sources : Sources) : Type 0 where
  pub between : List Node
  pub leaves : Leaves
  pub variables : AddsVariables (length a.states) a.flows first (length a.flows) old between sources.partners.items
  pub added : AddsLeaves between new leaves
  pub parts : AreParted a leaves (length new) (length a.states) sources.end sources.parts
  pub nothing : sources.nothing ≡ leaves.nothing
