-- What has to be admissible in the special automaton, so that no pair fails by flow.
use Rattle.std.specs.Prelude.{◌≡◌, ◌↔◌, ◌⊎◌, ℕ, ◌<◌, List, Contains, Option, Some, None, length}
use Rattle.mls_automaton.specs.declared.automaton.Flow.{Flow}
use Rattle.mls_automaton.specs.declared.automaton.Polarity.TheVariants.{Positive}
use Rattle.mls_automaton.specs.declared.scheme.Scheme.{Scheme}
use Rattle.mls_automaton.specs.Automata.{Automaton, polarity_at, HasFlow}
use Rattle.mls_subsume.specs.Searches.{Met, met_at}
use Rattle.mls_subsume.specs.steps.Queues.{IsMet}

-- an edge of the positive general state asks for the flow from a partner of its other end to the special state
abbrev pub IsAsked : Automaton → List Met → ℕ → ℕ → Flow → Type 0
IsAsked a met g s f =
    (polarity_at a g ≡ Positive) × (f.positive.0 ≡ s) × (h : ℕ) × HasFlow a h g × IsMet met h f.negative.0

-- the flows to the state from all that is paired with these states
abbrev pub AreAskedBy : List Met → ℕ → List ℕ → List Flow → Type 0
AreAskedBy met s ends flows =
    (f : Flow) → Contains flows f ↔ (f.positive.0 ≡ s) × (h : ℕ) × Contains ends h × IsMet met h f.negative.0

-- by the pair of this number
abbrev pub IsAskedAt : Automaton → List Met → ℕ → Flow → Type 0
IsAskedAt a met k f = IsAsked a met (met_at met k).general (met_at met k).special f

-- what the pair of this number asks is all there
abbrev pub IsGranted : Automaton → List Met → List Flow → ℕ → Type 0
IsGranted a met flows k = (f : Flow) → IsAskedAt a met k f → Contains flows f

-- the first pair whose flows are not all there
abbrev pub IsFirstRefused : Automaton → List Met → List Flow → Option ℕ → Type 0
IsFirstRefused a met flows None = (k : ℕ) → k < length met → IsGranted a met flows k
IsFirstRefused a met flows (Some k) =
    (k < length met) × ((f : Flow) × IsAskedAt a met k f × (Contains flows f → ⊥))
    × ((j : ℕ) → j < k → IsGranted a met flows j)
