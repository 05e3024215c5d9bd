-- Visited states.
use Rattle.std.specs.Prelude.{ℕ, List, All, Contains}
use Rattle.mls_automaton.specs.declared.automaton.Polarity.{Polarity}
use Rattle.mls_automaton.specs.Automata.{Automaton, IsState}
use Rattle.mls_print.specs.Walks.{states_below}

-- a visited state of this polarity
pub record IsVisited (a : Automaton) (order : List ℕ) (p : Polarity) (s : ℕ) : Type 0 where
  pub state : IsState a p s
  pub visited : Contains order s

-- every state that the head of a visited state names is visited
abbrev pub IsClosedOrder : Automaton → List ℕ → Type 0
IsClosedOrder a order = (j : ℕ) → Contains order j → (i : ℕ) → Contains (states_below a j) i → Contains order i

-- a set of visited states of one polarity
abbrev pub IsVisitedSet : Automaton → List ℕ → List ℕ → Type 0
IsVisitedSet a order set = (p : Polarity) × All (IsVisited a order p) set
