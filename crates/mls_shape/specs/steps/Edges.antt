-- How the edges of the deterministic form are found.
use Rattle.std.specs.Prelude.{◌≡◌, ◌⊎◌, ◌↔◌, ℕ, ◌<◌, List, [], length, get_or, Contains}
use Rattle.mls_automaton.specs.declared.automaton.Polarity.TheVariants.{Positive, Negative}
use Rattle.mls_automaton.specs.Automata.{Automaton, polarity_at, HasFlow, IsPartner}
use Rattle.mls_shape.specs.declared.register.SetState.{SetState}

-- the set of this number; past the end it is the empty positive one
abbrev pub set_at : List SetState → ℕ → SetState
set_at sets n = get_or sets n (record { polarity = Positive; members = [] })

-- each set has its number as its state
pub record AreStatesFor (sets : List SetState) (d : Automaton) : Type 0 where
  pub size : length d.states ≡ length sets
  pub polarity : (k : ℕ) → k < length sets → polarity_at d k ≡ (set_at sets k).polarity

-- just these edges came to the automaton
pub record AddsFlows (old new : Automaton) (IsNew : ℕ → ℕ → Type 0) : Type 0 where
  pub states : new.states ≡ old.states
  pub kept : (n q : ℕ) → HasFlow old n q → HasFlow new n q
  pub sound : (n q : ℕ) → HasFlow new n q → HasFlow old n q ⊎ IsNew n q
  pub complete : (n q : ℕ) → IsNew n q → HasFlow new n q

-- a member of the one, negative set has an edge to a member of the other
pub record IsEdge (a : Automaton) (sets : List SetState) (n p : ℕ) : Type 0 where
  pub low : n < length sets
  pub high : p < length sets
  pub negative : (set_at sets n).polarity ≡ Negative
  pub from : ℕ
  pub to : ℕ
  pub in_first : Contains (set_at sets n).members from
  pub in_second : Contains (set_at sets p).members to
  pub flow : HasFlow a from to

-- the numbers that were added to the list of each state
pub record AddsHolders (old new : List (List ℕ)) (IsAdded : ℕ → ℕ → Type 0) : Type 0 where
  pub same_length : length new ≡ length old
  pub just : (u j : ℕ) → j < length old → Contains (get_or new j []) u ↔ (Contains (get_or old j []) u ⊎ IsAdded u j)

-- for each of so many states those of the first sets that have it
pub record AreHolders (sets : List SetState) (count upto : ℕ) (holders : List (List ℕ)) : Type 0 where
  pub same_length : length holders ≡ count
  pub just : (u j : ℕ) → j < count
      → Contains (get_or holders j []) u ↔ ((u < upto) × Contains (set_at sets u).members j)

-- a partner of the state is in the list's set
abbrev pub IsHolder : Automaton → List (List ℕ) → ℕ → ℕ → Type 0
IsHolder a holders m j = (q : ℕ) × IsPartner a m q × Contains (get_or holders q []) j

abbrev pub IsTarget : Automaton → List (List ℕ) → List ℕ → ℕ → Type 0
IsTarget a holders members j = (m : ℕ) × Contains members m × IsHolder a holders m j
