-- Two environments made into one, binder by binder.
use Rattle.std.specs.Prelude.{◌≡◌, ℕ, ◌+◌, ◌<◌, ◌≤◌, List, length, take, get_or, All, Option, Some, None}
use Rattle.mls_automaton.specs.declared.scheme.EnvEntry.{EnvEntry}
use Rattle.mls_automaton.specs.Schemes.{state_of}
use Rattle.mls_scheme.specs.declared.environments.Shared.{Shared}

abbrev pub entry_of : ℕ → ℕ → EnvEntry
entry_of binder state = record { binder = binder; state = record { 0 = state } }

abbrev pub raised_entry : ℕ → EnvEntry → EnvEntry
raised_entry up entry = entry_of entry.binder (up + entry.state.0)

abbrev pub pair_of : ℕ → ℕ → Shared
pair_of m n = record { first = record { 0 = m }; second = record { 0 = n } }

-- the pair of this number
abbrev pub pair_at : List Shared → ℕ → Shared
pair_at shared k = get_or shared k (pair_of 0 0)

-- The state of a binder, by its states in the two: that of the one that has it, or a new one. The new states come from
-- `start` on, in the order of the pairs.
abbrev pub IsMet : ℕ → List Shared → Option ℕ → Option ℕ → Option ℕ → Type 0
IsMet start shared None right both = both ≡ right
IsMet start shared (Some m) None both = both ≡ Some m
IsMet start shared (Some m) (Some n) both =
    (k : ℕ) × (both ≡ Some (start + k)) × (k < length shared) × (pair_at shared k ≡ pair_of m n)

-- the two are the states of some binder
abbrev pub IsPairOf : List EnvEntry → List EnvEntry → Shared → Type 0
IsPairOf first second pair = (x : ℕ) × (state_of first x ≡ Some pair.first.0) × (state_of second x ≡ Some pair.second.0)

-- all binders are below this one
abbrev pub AreUnder : List EnvEntry → ℕ → Type 0
AreUnder env x = All (λ (entry : EnvEntry). entry.binder < x) env

-- the one environment that two give
pub record IsMetEnv (first second : List EnvEntry) (start : ℕ) (env : List EnvEntry)
    (shared : List Shared) : Type 0 where
  pub state : (x : ℕ) → IsMet start shared (state_of first x) (state_of second x) (state_of env x)
  pub pairs : All (IsPairOf first second) shared

-- The first i entries of the one and the first j of the other have been put together, and all others have higher
-- binders.
pub record IsMeeting (first second : List EnvEntry) (i j start : ℕ) (env : List EnvEntry)
    (shared : List Shared) : Type 0 where
  pub first_there : i ≤ length first
  pub second_there : j ≤ length second
  pub before_first : (d : EnvEntry) → i < length first → AreUnder env (get_or first i d).binder
  pub before_second : (d : EnvEntry) → j < length second → AreUnder env (get_or second j d).binder
  pub state : (x : ℕ) → IsMet start shared (state_of (take i first) x) (state_of (take j second) x) (state_of env x)
  pub pairs : All (IsPairOf first second) shared
