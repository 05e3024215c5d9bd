-- States under numbers, with edges, and how they change.
use Rattle.std.specs.Prelude.{◌≡◌, ◌≢◌, ◌↔◌, ◌⊎◌, ℕ, ◌<◌, Bool, true, false, List, map, length, get_or, Contains, Option, Some}
use Rattle.std.specs.Prelude.{None, is_some}
use Rattle.slab.specs.Slab.{Slab}
use Rattle.mls_automaton.specs.declared.automaton.Polarity.{Polarity}
use Rattle.mls_automaton.specs.declared.automaton.Polarity.TheVariants.{Positive, Negative}
use Rattle.mls_automaton.specs.declared.automaton.Head.{Head}
use Rattle.mls_automaton.specs.declared.automaton.State.{State}
use Rattle.mls_automaton.specs.Automata.{Automaton, HasFlow, empty_head, state_at}
use Rattle.mls_solver.specs.Rooms.{Room, Holds}
use Rattle.mls_biunify.specs.Live.{IsTable, IsStateIn, free_state}
use Rattle.mls_biunify.specs.steps.TwoWay.{TwoWay, flows_from}

-- the states, where free numbers stand as a positive state with nothing, and which numbers are there; they are below
-- the limit
pub record Numbered : Type 0 where
  pub automaton : Automaton
  pub there : List Bool
  pub limit : ℕ

abbrev pub state_in : Option State → State
state_in None = free_state
state_in (Some state) = state

abbrev pub numbered_of : Slab State → TwoWay → Numbered
numbered_of states flows = record {
  automaton = record { states = map state_in states.slots; flows = flows_from 0 flows.forward };
  there = map is_some states.slots;
  limit = length flows.forward;
}

pub record IsNumbered (t : Numbered) : Type 0 where
  pub is : IsTable t.automaton t.there
  pub low : (s : ℕ) → get_or t.there s false ≡ true → s < t.limit

-- each pair is one of a positive and a negative state that are there
abbrev pub HoldsThere : Numbered → Room → Type 0
HoldsThere t room = (p n : ℕ) → Holds room p n → IsStateIn t.automaton t.there Positive p
    × IsStateIn t.automaton t.there Negative n

-- one state came, under a number that was free
pub record InsertsState (old new : Numbered) (s : ℕ) (state : State) : Type 0 where
  pub was_free : get_or old.there s false ≡ false
  pub there : (j : ℕ) → get_or new.there j false ≡ true ↔ (get_or old.there j false ≡ true) ⊎ (j ≡ s)
  pub here : state_at new.automaton s ≡ state
  pub others : (j : ℕ) → get_or old.there j false ≡ true → state_at new.automaton j ≡ state_at old.automaton j
  pub flows : (n p : ℕ) → HasFlow new.automaton n p ↔ HasFlow old.automaton n p

-- the state has another head
pub record SetsHead (old new : Numbered) (s : ℕ) (h : Head) : Type 0 where
  pub there : new.there ≡ old.there
  pub here : state_at new.automaton s ≡ record { polarity = (state_at old.automaton s).polarity; head = h }
  pub others : (j : ℕ) → j ≢ s → state_at new.automaton j ≡ state_at old.automaton j
  pub flows : new.automaton.flows ≡ old.automaton.flows
  pub size : length new.automaton.states ≡ length old.automaton.states
  pub limit : new.limit ≡ old.limit

-- the state has a polarity, and no head as before
pub record SetsPolarity (old new : Numbered) (s : ℕ) (p : Polarity) : Type 0 where
  pub there : new.there ≡ old.there
  pub here : state_at new.automaton s ≡ record { polarity = p; head = empty_head }
  pub others : (j : ℕ) → j ≢ s → state_at new.automaton j ≡ state_at old.automaton j
  pub flows : new.automaton.flows ≡ old.automaton.flows

-- the state is gone
pub record RemovesState (old new : Numbered) (s : ℕ) : Type 0 where
  pub there : (j : ℕ) → get_or new.there j false ≡ true ↔ ((get_or old.there j false ≡ true) × (j ≢ s))
  pub others : (j : ℕ) → j ≢ s → state_at new.automaton j ≡ state_at old.automaton j
  pub flows : new.automaton.flows ≡ old.automaton.flows
  pub limit : new.limit ≡ old.limit

-- just this edge is gone
pub record RemovesFlow (old new : Numbered) (n p : ℕ) : Type 0 where
  pub states : new.automaton.states ≡ old.automaton.states
  pub there : new.there ≡ old.there
  pub limit : new.limit ≡ old.limit
  pub flows : (i j : ℕ) → HasFlow new.automaton i j ↔ (HasFlow old.automaton i j × ((i ≡ n) → (j ≡ p) → ⊥))

-- just the edges at none of these states are left
pub record CutsEdges (old : Numbered) (gone : List ℕ) (new : Numbered) : Type 0 where
  pub states : new.automaton.states ≡ old.automaton.states
  pub there : new.there ≡ old.there
  pub limit : new.limit ≡ old.limit
  pub flows : (i j : ℕ) → HasFlow new.automaton i j
      ↔ HasFlow old.automaton i j × (Contains gone i → ⊥) × (Contains gone j → ⊥)
