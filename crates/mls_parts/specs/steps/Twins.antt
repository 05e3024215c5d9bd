-- Automata with further states and edges.
use Rattle.std.specs.Prelude.{◌≡◌, ◌⊎◌, ℕ, ◌<◌, ◌≤◌, List, [], ◌∷◌, ◌++◌, length, Contains}
use Rattle.mls_book.specs.Predicates.{Predicate}
use Rattle.mls_automaton.specs.declared.automaton.Polarity.{Polarity}
use Rattle.mls_automaton.specs.declared.automaton.Polarity.TheVariants.{Negative}
use Rattle.mls_automaton.specs.declared.scheme.EnvEntry.{EnvEntry}
use Rattle.mls_automaton.specs.Automata.{Automaton, head_at, polarity_at, state_at, HasFlow, IsState}
use Rattle.mls_automaton.specs.Models.{HasStatesIn, IsClosed, IsModel}

-- the second automaton is closed, and each state of the first is one of it with the same polarity
pub record IsWider (a b : Automaton) : Type 0 where
  pub closed : IsClosed b
  pub kept : (p : Polarity) (s : ℕ) → IsState a p s → IsState b p s

-- edges from this state to these, and no other
pub record AddsEdgesTo (a b : Automaton) (from : ℕ) (ends : List ℕ) : Type 0 where
  pub states : b.states ≡ a.states
  pub flows : (n p : ℕ) → HasFlow b n p → HasFlow a n p ⊎ ((n ≡ from) × Contains ends p)
  pub kept : (n p : ℕ) → HasFlow a n p → HasFlow b n p
  pub added : (p : ℕ) → Contains ends p → HasFlow b from p

-- one state more, with the head and the edges of this negative one
pub record AddsTwin (a b : Automaton) (n twin : ℕ) : Type 0 where
  pub number : twin ≡ length a.states
  pub states : b.states ≡ a.states ++ record { polarity = Negative; head = head_at a n } ∷ []
  pub flows : (m p : ℕ) → HasFlow b m p → HasFlow a m p ⊎ ((m ≡ twin) × HasFlow a n p)
  pub kept : (m p : ℕ) → HasFlow a m p → HasFlow b m p
  pub edges : (p : ℕ) → HasFlow a n p → HasFlow b twin p

-- The second automaton has a state for each binder behind those of the first, which no head names. Each state of it is
-- one of the first, or a twin of one, with the same head and the same edges. A model of the first goes on over them, with
-- the values of the states that these binders had.
pub record HasOwnStates (a : Automaton) (entries : List EnvEntry) (b : Automaton) (env : List EnvEntry) : Type 0 where
  pub more : length a.states ≤ length b.states
  pub heads : (k : ℕ) → HasStatesIn (λ p s. s < length a.states) (polarity_at b k) (head_at b k)
  pub own : (entry : EnvEntry) → Contains env entry
      → (length a.states ≤ entry.state.0) × (entry.state.0 < length b.states)
  pub apart : (entry other : EnvEntry) → Contains env entry → Contains env other → entry.state.0 ≡ other.state.0
      → entry.binder ≡ other.binder
  pub old_of : ℕ → ℕ
  pub old_state : (k : ℕ) → k < length b.states
      → (old_of k < length a.states) × (state_at b k ≡ state_at a (old_of k))
  pub itself : (s : ℕ) → s < length a.states → old_of s ≡ s
  pub edges : (n p k l : ℕ) → HasFlow a n p → k < length b.states → l < length b.states → old_of k ≡ n → old_of l ≡ p
      → HasFlow b k l
  pub back : (entry : EnvEntry) → Contains env entry
      → (old : EnvEntry) × Contains entries old × (old.binder ≡ entry.binder) × (old_of entry.state.0 ≡ old.state.0)
  pub forth : (entry : EnvEntry) → Contains entries entry
      → (mine : EnvEntry) × Contains env mine × (mine.binder ≡ entry.binder)
  pub models : (value : ℕ → Predicate) → IsModel a value
      → (wide : ℕ → Predicate) × IsModel b wide × ((s : ℕ) → s < length a.states → wide s ≡ value s)
      × ((k : ℕ) → k < length b.states → (o : ℕ) × (o < length a.states) × (polarity_at a o ≡ polarity_at b k)
      × (wide k ≡ value o))
      × ((entry : EnvEntry) → Contains env entry → (old : EnvEntry) × Contains entries old × (old.binder ≡ entry.binder)
      × (wide entry.state.0 ≡ value old.state.0))
