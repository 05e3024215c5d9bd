-- Tables of states that are updated in place.
use Rattle.std.specs.Prelude.{All, ◌≡◌, ◌↔◌, ◌⊎◌, ℕ, ◌<◌, Bool, true, false, List, [], map, length, get_or, Contains}
use Rattle.std.specs.Prelude.{Option, Some, None, IsSome}
use Rattle.mls_automaton.specs.declared.automaton.Polarity.{Polarity}
use Rattle.mls_automaton.specs.declared.automaton.Polarity.TheVariants.{Positive, Negative}
use Rattle.mls_automaton.specs.declared.automaton.State.{State}
use Rattle.mls_automaton.specs.declared.state_set.StateId.{StateId}
use Rattle.mls_automaton.specs.Automata.{Automaton, empty_head, state_at, polarity_at, head_at, HasFlow}
use Rattle.mls_automaton.specs.Embeddings.{IsEmbedded}
use Rattle.mls_automaton.specs.Models.{HasStatesIn, HasRisingLabels}
use Rattle.mls_automaton.specs.Reached.{Names}
use Rattle.mls_automaton.specs.Sets.{Rises}
use Rattle.mls_solver.specs.declared.goal.Goal.{Goal}
use Rattle.mls_solver.specs.declared.goal.Refusal.{Refusal}
use Rattle.mls_solver.specs.declared.goal.Refusal.TheVariants.{Clashing, NoMemory}
use Rattle.mls_solver.specs.Clashes.{IsFirstClash}
use Rattle.mls_solver.specs.Rooms.{Room}
use Rattle.mls_solver.specs.Solutions.{IsSaturated}

-- The table holds the states that are there under their numbers. A number that is free stands in it as a positive state
-- with nothing and without an edge, as do all numbers past its end. The related pairs are there once the table is
-- solved.
pub record Live : Type 0 where
  pub table : Automaton
  pub there : List Bool
  pub related : Option (List (ℕ × ℕ))
  pub is_ready : Bool

-- what stands under a number that is free
abbrev pub free_state : State
free_state = record { polarity = Positive; head = empty_head }

-- the number is that of a state that is there
abbrev pub IsThere : Live → ℕ → Type 0
IsThere live s = get_or live.there s false ≡ true

-- a state that is there, of this polarity
pub record IsStateIn (a : Automaton) (numbers : List Bool) (p : Polarity) (s : ℕ) : Type 0 where
  pub there : get_or numbers s false ≡ true
  pub polarity : polarity_at a s ≡ p

abbrev pub IsLiveState : Live → Polarity → ℕ → Type 0
IsLiveState live p s = IsStateIn live.table live.there p s

-- What holds of every table: each state that a head or an edge names is there, and has the polarity that its place
-- demands; the labels of a record rise.
pub record IsTable (a : Automaton) (numbers : List Bool) : Type 0 where
  pub in_range : (s : ℕ) → get_or numbers s false ≡ true → s < length a.states
  pub free : (s : ℕ) → get_or numbers s false ≡ false → state_at a s ≡ free_state
  pub heads : (s : ℕ) → HasStatesIn (IsStateIn a numbers) (polarity_at a s) (head_at a s)
  pub labels : (s : ℕ) → HasRisingLabels (head_at a s).fields
  pub negative : (n p : ℕ) → HasFlow a n p → IsStateIn a numbers Negative n
  pub positive : (n p : ℕ) → HasFlow a n p → IsStateIn a numbers Positive p

abbrev pub IsLive : Live → Type 0
IsLive live = IsTable live.table live.there

abbrev pub IsLiveGoal : Live → Goal → Type 0
IsLiveGoal live g = IsLiveState live Positive g.positive.0 × IsLiveState live Negative g.negative.0

-- the related pairs; none where the table is not solved
abbrev pub pairs_of : Live → List (ℕ × ℕ)
pairs_of live = elim live.related [ None ↦ [] | Some pairs ↦ pairs ]

abbrev pub AreRelated : Live → ℕ → ℕ → Type 0
AreRelated live p n = Contains (pairs_of live) (p, n)

-- the relation is there, and holds just these pairs
pub record HasRelation (live : Live) (IsOne : ℕ → ℕ → Type 0) : Type 0 where
  pub present : IsSome live.related
  pub just : (p n : ℕ) → AreRelated live p n ↔ IsOne p n

-- the relation and `ready` are gone
abbrev pub IsUnsolved : Live → Type 0
IsUnsolved live = (live.related ≡ None) × (live.is_ready ≡ false)

-- the pairs as those of a room
abbrev pub room_of_pairs : List (ℕ × ℕ) → Room
room_of_pairs pairs = record { positives = 0; negatives = 0; rows = []; columns = []; pairs = pairs }

-- the relation is there and is the least closed one of the goals, and no pair of it clashes
pub record IsSolvedFor (live : Live) (goals : List Goal) : Type 0 where
  pub present : IsSome live.related
  pub goals_live : All (IsLiveGoal live) goals
  pub saturated : IsSaturated live.table goals (room_of_pairs (pairs_of live))

-- why `solve` gives no solution: the first clash of the relation, which is there, or memory was wanting
abbrev pub IsRefusalOf : Live → (ℕ → ℕ → Type 0) → Refusal → Type 0
IsRefusalOf live IsOne (Clashing clash) = HasRelation live IsOne × IsFirstClash live.table IsOne clash
IsRefusalOf live IsOne NoMemory = live.related ≡ None

-- the second has the same numbers, states, edges and related pairs, and the same `ready`
pub record IsSameLive (old new : Live) : Type 0 where
  pub there : (s : ℕ) → get_or new.there s false ≡ get_or old.there s false
  pub states : (s : ℕ) → state_at new.table s ≡ state_at old.table s
  pub flows : (n p : ℕ) → HasFlow new.table n p ↔ HasFlow old.table n p
  pub related : new.related ≡ old.related
  pub ready : new.is_ready ≡ old.is_ready

-- one state came, under a number that was free; all else stays
pub record Inserts (old new : Live) (s : ℕ) (state : State) : Type 0 where
  pub was_free : get_or old.there s false ≡ false
  pub there : (j : ℕ) → IsThere new j ↔ IsThere old j ⊎ (j ≡ s)
  pub here : state_at new.table s ≡ state
  pub others : (j : ℕ) → IsThere old j → state_at new.table j ≡ state_at old.table j
  pub flows : (n p : ℕ) → HasFlow new.table n p ↔ HasFlow old.table n p

-- the number that stands for this state
abbrev pub number_of : List ℕ → ℕ → ℕ
number_of numbers s = get_or numbers s 0

-- The second automaton has a copy of the first, whose states have these numbers, in their order: their polarities,
-- their heads and their edges are those of the states under the new numbers.
pub record IsCopyAt (a : Automaton) (numbers : List ℕ) (table : Automaton) : Type 0 where
  pub count : length numbers ≡ length a.states
  pub rises : Rises numbers
  pub embedded : IsEmbedded (number_of numbers) a table

-- just states of these numbers came, which were free; all else stays
pub record AddsStates (old new : Live) (numbers : List ℕ) : Type 0 where
  pub were_free : (j : ℕ) → Contains numbers j → get_or old.there j false ≡ false
  pub there : (j : ℕ) → IsThere new j ↔ IsThere old j ⊎ Contains numbers j
  pub others : (j : ℕ) → IsThere old j → state_at new.table j ≡ state_at old.table j

-- the edge is that of the automaton, under these numbers
abbrev pub IsCopiedFlow : Automaton → List ℕ → ℕ → ℕ → Type 0
IsCopiedFlow a numbers n p = (i j : ℕ) × HasFlow a i j × (number_of numbers i ≡ n) × (number_of numbers j ≡ p)

-- heads reach the state from one of the roots
pub data IsReachedFrom (a : Automaton) (roots : List StateId) : ℕ → Type 0 where
  root : {j : ℕ} (r : StateId) → Contains roots r → r.0 ≡ j → IsReachedFrom a roots j
  named : {i j : ℕ} → IsReachedFrom a roots i → Names a i j → IsReachedFrom a roots j

-- no head and no edge leads from one of these states to another one, or back
pub record IsRegion (a : Automaton) (states : List ℕ) : Type 0 where
  pub heads : (s t : ℕ) → Names a s t → Contains states s ↔ Contains states t
  pub flows : (n p : ℕ) → HasFlow a n p → Contains states n ↔ Contains states p

-- the numbers of these states
abbrev pub numbers_in : List StateId → List ℕ
numbers_in states = map (λ (s : StateId). s.0) states

-- the state is there, and heads reach it from the roots, or it is none of some states
abbrev pub StaysBeside : Live → List ℕ → List StateId → ℕ → Type 0
StaysBeside live states roots s = IsThere live s × (IsReachedFrom live.table roots s ⊎ (Contains states s → ⊥))

-- just the states of this kind stay, as they were, with the edges between them
pub record KeepsThere (old new : Live) (IsKept : ℕ → Type 0) : Type 0 where
  pub there : (s : ℕ) → IsThere new s ↔ IsKept s
  pub states : (s : ℕ) → IsKept s → state_at new.table s ≡ state_at old.table s
  pub flows : (n p : ℕ) → HasFlow new.table n p ↔ HasFlow old.table n p × IsKept n × IsKept p
