-- Pairs in the order in which a search meets them.
use Rattle.std.specs.Prelude.{◌≡◌, ◌⊎◌, ℕ, ◌<◌, length, get_or, List, [], ◌∷◌, ◌++◌, map, Contains, Option, Some, None}
use Rattle.mls_automaton.specs.declared.scheme.Scheme.{Scheme}
use Rattle.mls_subsume.specs.declared.verdict.Step.{Step}
use Rattle.mls_subsume.specs.declared.verdict.StatePair.{StatePair}
use Rattle.mls_subsume.specs.Pairs.{Leads, IsPathTo}
use Rattle.mls_automaton.specs.Automata.{polarity_at, head_at}
use Rattle.mls_subsume.specs.declared.verdict.Reason.{Reason}
use Rattle.mls_subsume.specs.declared.verdict.Path.{Path}
use Rattle.mls_subsume.specs.Failures.{Fails, FailsByHead, IsFirstFailure, StepsBefore}
use Rattle.mls_subsume.specs.Walks.{pair}

-- a pair, and the steps by which it was met
pub record Met : Type 0 where
  pub general : ℕ
  pub special : ℕ
  pub steps : List Step

-- not later
abbrev pub IsAtMost : List Step → List Step → Type 0
IsAtMost first second = (first ≡ second) ⊎ StepsBefore first second

-- the pair was met, by these steps or before them
abbrev pub IsMetBy : List Met → ℕ → ℕ → List Step → Type 0
IsMetBy met g s steps = (m : Met) × Contains met m × (m.general ≡ g) × (m.special ≡ s) × IsAtMost m.steps steps

-- The roots were met, each pair that was met is at the end of its steps, and each pair to which a step leads from there
-- was met too, by these steps or before them.
pub record IsSearch (general special : Scheme) (met : List Met) : Type 0 where
  pub roots : IsMetBy met general.root.0 special.root.0 []
  pub leads : (m : Met) → Contains met m → IsPathTo general special m.steps m.general m.special
  pub closed : (m : Met) (step : Step) (g s : ℕ) → Contains met m
      → Leads general.automaton special.automaton step m.general m.special g s → IsMetBy met g s (m.steps ++ step ∷ [])

abbrev pub pairs_of : List Met → List StatePair
pairs_of met = map (λ m. pair m.general m.special) met

-- the pair of this number; past the end its numbers are 0
abbrev pub met_at : List Met → ℕ → Met
met_at met k = get_or met k (record { general = 0; special = 0; steps = [] })

-- each pair was met after those before it
abbrev pub IsRising : List Met → Type 0
IsRising met = (j k : ℕ) → j < k → k < length met → StepsBefore (met_at met j).steps (met_at met k).steps

-- each pair but the first was met by one step from a pair before this number
abbrev pub CameBefore : List Met → ℕ → Type 0
CameBefore met i =
    (k : ℕ) → 0 < k → k < length met
    → (j : ℕ) × (step : Step) × (j < i) × ((met_at met k).steps ≡ (met_at met j).steps ++ step ∷ [])

-- the heads of the pair fail for this reason
abbrev pub FailsByHeadAt : Scheme → Scheme → Met → Reason → Type 0
FailsByHeadAt general special m =
    FailsByHead (polarity_at general.automaton m.general)
    (head_at general.automaton m.general) (head_at special.automaton m.special)

-- no pair that was met fails by a part or a label
abbrev pub HasNoHeadFailure : Scheme → Scheme → List Met → Type 0
HasNoHeadFailure general special met =
    (m : Met) (why : Reason) → Contains met m → FailsByHeadAt general special m why → ⊥

-- no pair that was met fails
abbrev pub HasNoFailure : Scheme → Scheme → List Met → Type 0
HasNoFailure general special met =
    (m : Met) (why : Reason) → Contains met m
    → Fails general special (polarity_at general.automaton m.general) m.general m.special why → ⊥

-- the first failure, or none where no pair that was met fails by a part or a label
abbrev pub IsFirstByHead : Scheme → Scheme → List Met → Option Path → Type 0
IsFirstByHead general special met None = HasNoHeadFailure general special met
IsFirstByHead general special met (Some path) = IsFirstFailure general special path

-- the first failure, or none where no pair that was met fails
abbrev pub IsFirstByFlow : Scheme → Scheme → List Met → Option Path → Type 0
IsFirstByFlow general special met None = HasNoFailure general special met
IsFirstByFlow general special met (Some path) = IsFirstFailure general special path
