-- How the states of the deterministic form are made, one set after another.
use Rattle.std.specs.Prelude.{◌≡◌, ℕ, ◌<◌, ◌≤◌, List, [], length, map, get_or, All}
use Rattle.mls_automaton.specs.declared.automaton.Head.{Head}
use Rattle.mls_automaton.specs.declared.automaton.State.{State}
use Rattle.mls_automaton.specs.Automata.{Automaton, state_at, head_at, IsState, with_state}
use Rattle.mls_automaton.specs.Heads.{parts_of, combined, IsSameParts}
use Rattle.mls_automaton.specs.Models.{HasRisingLabels}
use Rattle.mls_automaton.specs.Reached.{Names}
use Rattle.mls_shape.specs.declared.register.SetState.{SetState}
use Rattle.mls_shape.specs.steps.Registers.{Grows}
use Rattle.mls_shape.specs.steps.NumberedHeads.{IsHeadOf, NumbersHead}

-- a set of states of its polarity
abbrev pub IsSetOf : Automaton → SetState → Type 0
IsSetOf a set = All (IsState a set.polarity) set.members

-- the combined head of the members of a set
pub record IsCombinedOf (a : Automaton) (set : SetState) (head : Head) : Type 0 where
  pub parts : IsSameParts (parts_of head) (combined set.polarity (map (λ i. parts_of (head_at a i)) set.members))
  pub labels : HasRisingLabels head.fields

-- the state of a set
pub record IsStateOf (a : Automaton) (sets : List SetState) (set : SetState) (state : State) : Type 0 where
  pub polarity : state.polarity ≡ set.polarity
  pub head : Head
  pub combined : IsCombinedOf a set head
  pub is : IsHeadOf sets set.polarity head state.head

-- the state of the set of this number came to the automaton
pub record AddsState (a : Automaton) (next : ℕ) (old new : List SetState) (before after : Automaton) : Type 0 where
  pub set : SetState
  pub at : (d : SetState) → get_or old next d ≡ set
  pub head : Head
  pub combined : IsCombinedOf a set head
  pub row : Head
  pub numbers : NumbersHead set.polarity head old new row
  pub added : after ≡ with_state before (record { polarity = set.polarity; head = row })

-- there are states for the first sets, and each later set is named by the state of an earlier one
pub record IsBuilding (a : Automaton) (first sets : List SetState) (d : Automaton) : Type 0 where
  pub more : Grows (λ k. (i : ℕ) × (i < k) × Names d i k) first sets
  pub flows : d.flows ≡ []
  pub low : length d.states ≤ length sets
  pub each : All (IsSetOf a) sets
  pub states : (j : ℕ) (e : SetState) → j < length d.states → IsStateOf a sets (get_or sets j e) (state_at d j)

-- there is a state for each set
pub record AreStatesOf (a : Automaton) (first sets : List SetState) (d : Automaton) : Type 0 where
  pub building : IsBuilding a first sets d
  pub whole : length d.states ≡ length sets
