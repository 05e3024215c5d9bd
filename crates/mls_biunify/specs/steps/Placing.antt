-- States of a table under their places in a list of numbers.
use Rattle.std.specs.Prelude.{◌≡◌, ◌↔◌, ◌⊎◌, ℕ, ◌<◌, List, length, get_or}
use Rattle.mls_automaton.specs.declared.automaton.Polarity.TheVariants.{Positive, Negative}
use Rattle.mls_automaton.specs.Automata.{Automaton, HasFlow, IsState, polarity_at}
use Rattle.mls_biunify.specs.steps.Tables.{Numbered}

-- at each place stands a state with the polarity of its number
abbrev pub HasPlaces : Numbered → List ℕ → Automaton → Type 0
HasPlaces t numbers a = (i : ℕ) → i < length numbers → IsState a (polarity_at t.automaton (get_or numbers i 0)) i

-- the edge of the table between the states of two places
abbrev pub IsPlacedFlow : Numbered → List ℕ → ℕ → ℕ → Type 0
IsPlacedFlow t numbers n p =
    (n < length numbers) × (p < length numbers) × HasFlow t.automaton (get_or numbers n 0) (get_or numbers p 0)

-- the edge from a place to that of this state
abbrev pub IsFlowTo : List ℕ → ℕ → ℕ → ℕ × ℕ → Type 0
IsFlowTo numbers place target x = (x.0 ≡ place) × (x.1 < length numbers) × (get_or numbers x.1 0 ≡ target)

-- an edge may go from a place to that of this state
abbrev pub MayPlace : List ℕ → Automaton → ℕ → ℕ → Type 0
MayPlace numbers a place target =
    (j : ℕ) → j < length numbers → get_or numbers j 0 ≡ target → IsState a Negative place × IsState a Positive j

-- the edges from a place came
pub record PlacesFlows (t : Numbered) (numbers : List ℕ) (place : ℕ) (old new : Automaton) : Type 0 where
  pub states : new.states ≡ old.states
  pub flows : (x : ℕ × ℕ) → HasFlow new x.0 x.1
      ↔ (HasFlow old x.0 x.1 ⊎ ((x.0 ≡ place) × IsPlacedFlow t numbers x.0 x.1))
