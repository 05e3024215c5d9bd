-- What a walk over a table has found, and the states that stay.
use Rattle.std.specs.Prelude.{◌≡◌, ◌⊎◌, ◌↔◌, ℕ, Bool, true, false, List, map, length, get_or, Contains}
use Rattle.std.specs.List.{range_with_len}
use Rattle.mls_automaton.specs.declared.state_set.StateId.{StateId}
use Rattle.mls_automaton.specs.Automata.{HasFlow, empty_head, head_at, state_at}
use Rattle.mls_automaton.specs.Reached.{Names}
use Rattle.mls_automaton.specs.steps.Searching.{Found, Grows, IsBelow, IsMarked}
use Rattle.mls_solver.specs.steps.Among.{is_among}
use Rattle.mls_biunify.specs.Live.{IsReachedFrom}
use Rattle.mls_biunify.specs.declared.reach.Search.{Search}
use Rattle.mls_biunify.specs.steps.Tables.{Numbered}

-- whether each number below the limit is among these
abbrev pub marks_below : ℕ → List ℕ → List Bool
marks_below limit numbers = map (is_among numbers) (range_with_len 0 limit)

-- which states a walk has found, and which of these are still to be looked at
pub record Walk : Type 0 where
  pub found : List ℕ
  pub work : List ℕ

abbrev pub walk_of : {F : Type 0} → (F → List ℕ) → Search F → Walk
walk_of members s = record { found = members s.found; work = s.work.items }

-- a walk, where all that is to be found is below the limit
abbrev pub found_of : ℕ → Walk → Found
found_of limit s = record { marks = marks_below limit s.found; work = s.work }

-- the states of this kind were found, and nothing else was; what is new is to be looked at
abbrev pub Finds : Walk → Walk → (ℕ → Type 0) → Type 0
Finds old new IsOne = (limit : ℕ) → IsBelow IsOne limit → Grows (found_of limit old) (found_of limit new) IsOne

-- the same of searches, whose found states are these members
abbrev pub FindsIn : {F : Type 0} → (F → List ℕ) → Search F → Search F → (ℕ → Type 0) → Type 0
FindsIn members old new IsOne = Finds (walk_of members old) (walk_of members new) IsOne

abbrev pub InRoots : List StateId → ℕ → Type 0
InRoots roots j = (root : StateId) × Contains roots root × (root.0 ≡ j)

-- Only states that are reached were found, the roots among them. Each that was found is to be looked at, or all that
-- its head names were found.
pub record IsSearch (t : Numbered) (roots : List StateId) (s : Found) : Type 0 where
  pub same_length : length s.marks ≡ t.limit
  pub sound : (j : ℕ) → IsMarked s j → IsReachedFrom t.automaton roots j
  pub first : (j : ℕ) → InRoots roots j → IsMarked s j
  pub work : (j : ℕ) → Contains s.work j → IsMarked s j
  pub closed : (i : ℕ) → IsMarked s i → Contains s.work i ⊎ ((j : ℕ) → Names t.automaton i j → IsMarked s j)

-- the state is one of these, and was not found
abbrev pub IsUnfound : List ℕ → List ℕ → ℕ → Type 0
IsUnfound states found s = Contains states s × (Contains found s → ⊥)

-- What is left of the sets of a relation at these states, of which just those that were found stay: the list has the
-- sets that lose a member, and perhaps others.
pub record AreShortened (R : ℕ → ℕ → Type 0) (found : List ℕ) (kept : List StateId) (cuts : List (ℕ × List ℕ)) : Type 0 where
  pub listed : (s : ℕ) (set : List ℕ) → Contains cuts (s, set)
      → InRoots kept s × ((j : ℕ) → Contains set j ↔ R s j × Contains found j)
  pub others : (s j : ℕ) → InRoots kept s → ((set : List ℕ) → Contains cuts (s, set) → ⊥) → R s j → Contains found j

-- what is left of a set is there for its state, unless it loses nothing
pub record AddsCut (s : ℕ) (set found : List ℕ) (old new : List (ℕ × List ℕ)) : Type 0 where
  pub listed : (t : ℕ) (other : List ℕ) → Contains new (t, other) → Contains old (t, other)
      ⊎ ((t ≡ s) × ((j : ℕ) → Contains other j ↔ Contains set j × Contains found j))
  pub kept : (x : ℕ × List ℕ) → Contains old x → Contains new x
  pub either : ((other : List ℕ) × Contains new (s, other)) ⊎ ((j : ℕ) → Contains set j → Contains found j)

-- the heads of these states are gone
pub record EmptiesHeads (old : Numbered) (states : List ℕ) (new : Numbered) : Type 0 where
  pub there : new.there ≡ old.there
  pub flows : new.automaton.flows ≡ old.automaton.flows
  pub empty : (s : ℕ) → Contains states s → head_at new.automaton s ≡ empty_head
  pub others : (s : ℕ) → (Contains states s → ⊥) → state_at new.automaton s ≡ state_at old.automaton s

-- just the states of this kind stay, as they were, with the edges between them
pub record KeepsStates (old : Numbered) (IsKept : ℕ → Type 0) (new : Numbered) : Type 0 where
  pub there : (s : ℕ) → get_or new.there s false ≡ true ↔ IsKept s
  pub states : (s : ℕ) → IsKept s → state_at new.automaton s ≡ state_at old.automaton s
  pub flows : (n p : ℕ) → HasFlow new.automaton n p ↔ HasFlow old.automaton n p × IsKept n × IsKept p

-- the state is there, and is reached or is none of these
abbrev pub StaysAmong : Numbered → List ℕ → List StateId → ℕ → Type 0
StaysAmong t states roots s =
    (get_or t.there s false ≡ true) × (IsReachedFrom t.automaton roots s ⊎ (Contains states s → ⊥))
