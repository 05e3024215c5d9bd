-- An automaton that is solved in place: what each state has in the solved automaton, and how that is put in.
use Rattle.std.specs.Prelude.{◌≡◌, ◌≢◌, ◌↔◌, ◌⊎◌, ℕ, ◌<◌, List, [], length, All, Contains}
use Rattle.mls_automaton.specs.declared.automaton.Polarity.TheVariants.{Positive, Negative}
use Rattle.mls_automaton.specs.Automata.{Automaton, HasFlow, IsState, polarity_at, head_at, state_at}
use Rattle.mls_solver.specs.declared.settle.Change.{Change}
use Rattle.mls_solver.specs.Solved.{ReachesBy, IsNewFlow}
use Rattle.mls_solver.specs.steps.Solving.{IsSolvedFlow, IsSolvedState}

-- another old head goes into the new head of state s
abbrev pub IsTouched : Automaton → (ℕ → ℕ → Type 0) → ℕ → Type 0
IsTouched a IsRelated s = (j : ℕ) × ReachesBy a IsRelated (polarity_at a s) s j

-- what a state has in the solved automaton
pub record IsChange (a : Automaton) (IsRelated : ℕ → ℕ → Type 0) (c : Change) : Type 0 where
  pub low : c.state.0 < length a.states
  pub state : IsSolvedState a IsRelated c.state.0 (record { polarity = polarity_at a c.state.0; head = c.head })
  pub sound : (q : ℕ) → Contains c.ends q → IsSolvedFlow a IsRelated c.state.0 q
  pub complete : (q : ℕ) → IsNewFlow a IsRelated c.state.0 q → Contains c.ends q

abbrev pub AreChanges : Automaton → (ℕ → ℕ → Type 0) → List Change → Type 0
AreChanges a IsRelated changes = (c : Change) → Contains changes c → IsChange a IsRelated c

abbrev pub HasChangeOf : List Change → ℕ → Type 0
HasChangeOf changes s = (c : Change) × Contains changes c × (c.state.0 ≡ s)

-- the state is there, and edges may go from it to the ends
pub record IsFitting (a : Automaton) (c : Change) : Type 0 where
  pub low : c.state.0 < length a.states
  pub negative : c.ends ≢ [] → IsState a Negative c.state.0
  pub positive : All (IsState a Positive) c.ends

-- the change, and nothing else, is made
pub record Makes (c : Change) (old new : Automaton) : Type 0 where
  pub size : length new.states ≡ length old.states
  pub polarity : (s : ℕ) → polarity_at new s ≡ polarity_at old s
  pub head : head_at new c.state.0 ≡ c.head
  pub others : (s : ℕ) → s ≢ c.state.0 → state_at new s ≡ state_at old s
  pub flows : (n q : ℕ) → HasFlow new n q ↔ (HasFlow old n q ⊎ ((n ≡ c.state.0) × Contains c.ends q))

-- a state is as it was and has no change, or has the head of one of its changes
abbrev pub IsMadeAt : Automaton → List Change → Automaton → ℕ → Type 0
IsMadeAt old changes new s =
    (((c : Change) → Contains changes c → c.state.0 ≢ s) × (state_at new s ≡ state_at old s))
    ⊎ ((c : Change) × Contains changes c × (c.state.0 ≡ s) × (head_at new s ≡ c.head))

-- these changes, and nothing else, are made
pub record AreMade (old : Automaton) (changes : List Change) (new : Automaton) : Type 0 where
  pub size : length new.states ≡ length old.states
  pub polarity : (s : ℕ) → polarity_at new s ≡ polarity_at old s
  pub states : (s : ℕ) → IsMadeAt old changes new s
  pub kept : (n q : ℕ) → HasFlow old n q → HasFlow new n q
  pub sound : (n q : ℕ) → HasFlow new n q
      → HasFlow old n q ⊎ ((c : Change) × Contains changes c × (c.state.0 ≡ n) × Contains c.ends q)
  pub complete : (c : Change) → Contains changes c → (q : ℕ) → Contains c.ends q → HasFlow new c.state.0 q
