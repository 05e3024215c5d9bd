-- A table as an automaton with the same numbers.
use Rattle.std.specs.Prelude.{◌≡◌, ◌↔◌, ◌⊎◌, ℕ, ◌<◌, [], length}
use Rattle.mls_automaton.specs.declared.automaton.Polarity.{Polarity}
use Rattle.mls_automaton.specs.Automata.{Automaton, HasFlow, IsState, state_at}
use Rattle.mls_biunify.specs.Live.{IsStateIn}
use Rattle.mls_biunify.specs.steps.Tables.{Numbered}

-- the same states and edges under the same numbers
pub record IsCopy (t : Numbered) (a : Automaton) : Type 0 where
  pub states : (s : ℕ) → state_at a s ≡ state_at t.automaton s
  pub flows : (n p : ℕ) → HasFlow a n p ↔ HasFlow t.automaton n p
  pub size : length a.states ≡ t.limit

-- the states of the first so many numbers, and no edge
pub record AreCopiedStates (t : Numbered) (count : ℕ) (a : Automaton) : Type 0 where
  pub size : length a.states ≡ count
  pub flows : a.flows ≡ []
  pub states : (s : ℕ) → s < count → state_at a s ≡ state_at t.automaton s

-- the states that are there are states of the automaton
abbrev pub HasStatesOf : Numbered → Automaton → Type 0
HasStatesOf t a = (p : Polarity) (s : ℕ) → IsStateIn t.automaton t.there p s → IsState a p s

-- the edges from a number came
pub record CopiesFlows (t : Numbered) (n : ℕ) (old new : Automaton) : Type 0 where
  pub states : new.states ≡ old.states
  pub flows : (x : ℕ × ℕ) → HasFlow new x.0 x.1 ↔ (HasFlow old x.0 x.1 ⊎ ((x.0 ≡ n) × HasFlow t.automaton n x.1))
