-- Rooms: the relations that are found in space that was taken before.
use Rattle.std.specs.Prelude.{◌↔◌, ℕ, ◌≤◌, List, Contains, count_by}
use Rattle.mls_automaton.specs.declared.automaton.Polarity.TheVariants.{Positive, Negative}
use Rattle.mls_automaton.specs.declared.automaton.State.{State}
use Rattle.mls_automaton.specs.Automata.{Automaton, IsState}
use Rattle.std.specs.Prelude.{Bool, true, false}

-- There is space for the pairs of so many positive and so many negative states. The rows are the positive states and
-- the columns the negative states of the automaton that the room was last used for, and the pairs are those that are
-- related, each a positive and a negative state, in the order in which they were found.
pub record Room : Type 0 where
  pub positives : ℕ
  pub negatives : ℕ
  pub rows : List ℕ
  pub columns : List ℕ
  pub pairs : List (ℕ × ℕ)

abbrev pub Holds : Room → ℕ → ℕ → Type 0
Holds room p n = Contains room.pairs (p, n)

-- the room holds exactly these pairs
abbrev pub HoldsJust : Room → (ℕ → ℕ → Type 0) → Type 0
HoldsJust room IsRelated = (p n : ℕ) → Holds room p n ↔ IsRelated p n

-- each pair is one of a positive and a negative state of the automaton
abbrev pub HoldsStates : Automaton → Room → Type 0
HoldsStates a room = (p n : ℕ) → Holds room p n → IsState a Positive p × IsState a Negative n

abbrev pub is_positive : State → Bool
is_positive s = elim s.polarity [ Positive ↦ true | Negative ↦ false ]

abbrev pub is_negative : State → Bool
is_negative s = elim s.polarity [ Positive ↦ false | Negative ↦ true ]

-- there is space for the states of an automaton
pub record Fits (a : Automaton) (room : Room) : Type 0 where
  pub positives : count_by is_positive a.states ≤ room.positives
  pub negatives : count_by is_negative a.states ≤ room.negatives
