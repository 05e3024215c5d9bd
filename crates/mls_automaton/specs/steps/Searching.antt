-- What a search for the states that are reached holds, and how it grows.
use Rattle.std.specs.Prelude.{◌≡◌, ◌⊎◌, ℕ, ◌+◌, ◌*◌, ◌<◌, ◌≤◌, Bool, true, false, suc, List, [], ◌∷◌, length, get_or}
use Rattle.std.specs.Prelude.{Contains}
use Rattle.mls_automaton.specs.declared.automaton.Arms.{Arms}
use Rattle.mls_automaton.specs.declared.scheme.EnvEntry.{EnvEntry}
use Rattle.mls_automaton.specs.declared.scheme.Scheme.{Scheme}
use Rattle.mls_automaton.specs.declared.reach.Search.{Search}
use Rattle.mls_automaton.specs.Reached.{IsReached, Names}

-- which states were found, and which of these are still to be looked at
pub record Found : Type 0 where
  pub marks : List Bool
  pub work : List ℕ

abbrev pub search_of : Search → Found
search_of s = record { marks = s.marks.items; work = s.work.items }

abbrev pub IsMarked : Found → ℕ → Type 0
IsMarked s j = get_or s.marks j false ≡ true

-- how many states were not found
abbrev pub unmarked : List Bool → ℕ
unmarked [] = 0
unmarked (true ∷ rest) = unmarked rest
unmarked (false ∷ rest) = suc (unmarked rest)

-- twice the states that were not found, and those that are to be looked at: what falls with each step
abbrev pub left_of : Found → ℕ
left_of s = 2 * unmarked s.marks + length s.work

-- the states of this kind were found, and nothing else was; what is new is to be looked at
pub record Grows (old new : Found) (IsOne : ℕ → Type 0) : Type 0 where
  pub same_length : length new.marks ≡ length old.marks
  pub kept : (j : ℕ) → IsMarked old j → IsMarked new j
  pub all : (j : ℕ) → IsOne j → IsMarked new j
  pub found : (j : ℕ) → IsMarked new j → IsMarked old j ⊎ (IsOne j × Contains new.work j)
  pub work_kept : (j : ℕ) → Contains old.work j → Contains new.work j
  pub work_new : (j : ℕ) → Contains new.work j → Contains old.work j ⊎ IsOne j
  pub left : left_of new ≤ left_of old

-- all states of this kind are below the number
abbrev pub IsBelow : (ℕ → Type 0) → ℕ → Type 0
IsBelow IsOne n = (j : ℕ) → IsOne j → j < n

-- the state is in the domain or the codomain
abbrev pub InArms : Arms → ℕ → Type 0
InArms arms j = Contains arms.domain j ⊎ Contains arms.codomain j

-- the state is that of a binder
abbrev pub InEntries : List EnvEntry → ℕ → Type 0
InEntries entries j = (entry : EnvEntry) × Contains entries entry × (entry.state.0 ≡ j)

-- Only states that are reached were found, the first ones among them. Each that was found is to be looked at, or all
-- that its head names were found.
pub record IsSearch (scheme : Scheme) (s : Found) : Type 0 where
  pub same_length : length s.marks ≡ length scheme.automaton.states
  pub sound : (j : ℕ) → IsMarked s j → IsReached scheme j
  pub root : IsMarked s scheme.root.0
  pub binders : (j : ℕ) → InEntries scheme.env j → IsMarked s j
  pub work : (j : ℕ) → Contains s.work j → IsMarked s j
  pub closed : (i : ℕ) → IsMarked s i → Contains s.work i ⊎ ((j : ℕ) → Names scheme.automaton i j → IsMarked s j)

-- exactly the states that are reached are marked
pub record AreReached (scheme : Scheme) (marks : List Bool) : Type 0 where
  pub same_length : length marks ≡ length scheme.automaton.states
  pub sound : (j : ℕ) → get_or marks j false ≡ true → IsReached scheme j
  pub complete : (j : ℕ) → IsReached scheme j → get_or marks j false ≡ true
