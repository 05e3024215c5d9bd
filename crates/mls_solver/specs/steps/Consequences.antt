-- What follows from a pair of states by their heads, and how a room grows along the rules of the closed relation.
use Rattle.std.specs.Prelude.{◌≡◌, ◌⊎◌, ℕ, ◌<◌, ◌≤◌, List, ◌++◌, length, get_or, Contains, Option, Some}
use Rattle.mls_automaton.specs.declared.automaton.Polarity.TheVariants.{Positive, Negative}
use Rattle.mls_automaton.specs.declared.automaton.Arms.{Arms}
use Rattle.mls_automaton.specs.declared.automaton.FieldSet.{FieldSet}
use Rattle.mls_automaton.specs.declared.automaton.Head.{Head}
use Rattle.mls_automaton.specs.Automata.{Automaton, head_at, HasFlow, IsState}
use Rattle.mls_automaton.specs.Heads.{set_at}
use Rattle.mls_solver.specs.Relations.{IsRelated}
use Rattle.mls_solver.specs.Rooms.{Room, Holds}

-- by the functions of a positive and a negative state
abbrev pub ByFunctions : Option Arms → Option Arms → ℕ → ℕ → Type 0
ByFunctions (Some arms) (Some others) p n =
    (Contains others.domain p × Contains arms.domain n) ⊎ (Contains arms.codomain p × Contains others.codomain n)
ByFunctions _ _ p n = ⊥

-- by the fields of both at one label
abbrev pub ByField : List FieldSet → FieldSet → ℕ → ℕ → Type 0
ByField fields other p n = (set : List ℕ) × (set_at fields other.label ≡ Some set) × Contains set p
    × Contains other.set n

-- by their records
abbrev pub ByRecords : Option (List FieldSet) → Option (List FieldSet) → ℕ → ℕ → Type 0
ByRecords (Some fields) (Some others) p n = (other : FieldSet) × Contains others other × ByField fields other p n
ByRecords _ _ p n = ⊥

abbrev pub ByHeads : Head → Head → ℕ → ℕ → Type 0
ByHeads upper lower p n = ByFunctions upper.function lower.function p n ⊎ ByRecords upper.fields lower.fields p n

-- the rows and columns of a room are the states of the automaton
pub record IsRoomOf (a : Automaton) (room : Room) : Type 0 where
  pub row : (p : ℕ) → IsState a Positive p → Contains room.rows p
  pub column : (n : ℕ) → IsState a Negative n → Contains room.columns n
  pub row_is : (p : ℕ) → Contains room.rows p → IsState a Positive p
  pub column_is : (n : ℕ) → Contains room.columns n → IsState a Negative n

-- The room came to hold some pairs that follow from those that it held. What it held stands where it stood.
pub record Follows (a : Automaton) (old new : Room) : Type 0 where
  pub positives : new.positives ≡ old.positives
  pub negatives : new.negatives ≡ old.negatives
  pub rows : new.rows ≡ old.rows
  pub columns : new.columns ≡ old.columns
  pub behind : (more : List (ℕ × ℕ)) × (new.pairs ≡ old.pairs ++ more)
  pub sound : (p n : ℕ) → Holds new p n → IsRelated a (Holds old) p n

-- all that follows from one pair and what the room held before
pub record HasConsequences (a : Automaton) (p n : ℕ) (old new : Room) : Type 0 where
  pub heads : (q m : ℕ) → ByHeads (head_at a p) (head_at a n) q m → Holds new q m
  pub after : (q m : ℕ) → HasFlow a n q → Holds old q m → Holds new p m
  pub before : (q m : ℕ) → Holds old q m → HasFlow a m p → Holds new q n

-- the pair that was found at this place
abbrev pub first_of : Room → ℕ → ℕ
first_of room k = (get_or room.pairs k (0, 0)).0

abbrev pub second_of : Room → ℕ → ℕ
second_of room k = (get_or room.pairs k (0, 0)).1

-- the first so many pairs were taken: what follows from them is held
pub record AreTaken (a : Automaton) (old : Room) (next : ℕ) (room : Room) : Type 0 where
  pub follows : Follows a old room
  pub in_range : next ≤ length room.pairs
  pub heads : (k q m : ℕ) → k < next → ByHeads (head_at a (first_of room k)) (head_at a (second_of room k)) q m
      → Holds room q m
  pub flows : (j k : ℕ) → j < next → k < next → HasFlow a (second_of room j) (first_of room k)
      → Holds room (first_of room j) (second_of room k)
