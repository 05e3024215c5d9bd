-- The solved automaton, one state and one edge after another.
use Rattle.std.specs.Prelude.{◌≡◌, ◌⊎◌, ℕ, ◌<◌, List, [], length, map, Contains}
use Rattle.mls_automaton.specs.declared.automaton.State.{State}
use Rattle.mls_automaton.specs.Automata.{Automaton, HasFlow, polarity_at, head_at, state_at}
use Rattle.mls_automaton.specs.Heads.{parts_of, combined, IsSameParts}
use Rattle.mls_automaton.specs.Models.{HasRisingLabels}
use Rattle.mls_solver.specs.Solved.{ReachesBy, IsNewFlow}

-- the states whose old heads go into the new head of state s
pub record AreMembers (a : Automaton) (IsRelated : ℕ → ℕ → Type 0) (s : ℕ) (members : List ℕ) : Type 0 where
  pub self : Contains members s
  pub reached : (j : ℕ) → Contains members j → (j ≡ s) ⊎ ReachesBy a IsRelated (polarity_at a s) s j
  pub reaching : (j : ℕ) → ReachesBy a IsRelated (polarity_at a s) s j → Contains members j

-- state s of the solved automaton
pub record IsSolvedState (a : Automaton) (IsRelated : ℕ → ℕ → Type 0) (s : ℕ) (state : State) : Type 0 where
  pub polarity : state.polarity ≡ polarity_at a s
  pub members : List ℕ
  pub are : AreMembers a IsRelated s members
  pub parts : IsSameParts (parts_of state.head) (combined (polarity_at a s) (map (λ j. parts_of (head_at a j)) members))
  pub labels : HasRisingLabels state.head.fields

-- the first so many states of the solved automaton, and no edge
pub record AreSolvedTo (a : Automaton) (IsRelated : ℕ → ℕ → Type 0) (count : ℕ) (solved : Automaton) : Type 0 where
  pub size : length solved.states ≡ count
  pub flows : solved.flows ≡ []
  pub states : (s : ℕ) → s < count → IsSolvedState a IsRelated s (state_at solved s)

-- some member has an edge to q
abbrev pub IsTarget : Automaton → List ℕ → ℕ → Type 0
IsTarget a members q = (m : ℕ) × Contains members m × HasFlow a m q

-- just these edges came to the automaton
pub record AddsFlows (old new : Automaton) (IsNew : ℕ → ℕ → Type 0) : Type 0 where
  pub states : new.states ≡ old.states
  pub kept : (n q : ℕ) → HasFlow old n q → HasFlow new n q
  pub sound : (n q : ℕ) → HasFlow new n q → HasFlow old n q ⊎ IsNew n q
  pub complete : (n q : ℕ) → IsNew n q → HasFlow new n q

-- the edges of the solved automaton
abbrev pub IsSolvedFlow : Automaton → (ℕ → ℕ → Type 0) → ℕ → ℕ → Type 0
IsSolvedFlow a IsRelated n q = HasFlow a n q ⊎ IsNewFlow a IsRelated n q
