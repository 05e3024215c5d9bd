-- How the pairs that a search meets are kept: each with the number of the pair from which it was met and the step, and
-- for each general state the special states that it was paired with.
use Rattle.std.specs.Prelude.{◌≡◌, ◌↔◌, ◌⊎◌, ℕ, ◌<◌, List, [], ◌∷◌, ◌++◌, length, get_or, Contains, Option, Some, None}
use Rattle.mls_subsume.specs.declared.verdict.Step.{Step}
use Rattle.mls_subsume.specs.declared.verdict.StatePair.{StatePair}
use Rattle.mls_subsume.specs.declared.queue.Link.{Link}
use Rattle.mls_subsume.specs.declared.queue.Visit.{Visit}
use Rattle.mls_subsume.specs.Searches.{Met, met_at}

-- the steps of a pair that was met behind these pairs
abbrev pub steps_by : List Met → Option Link → List Step
steps_by met None = []
steps_by met (Some link) = (met_at met link.from).steps ++ link.step ∷ []

abbrev pub met_by : List Met → Visit → Met
met_by met v = record { general = v.pair.general.0; special = v.pair.special.0; steps = steps_by met v.link }

-- the pairs with their steps, behind those that were met before
abbrev pub met_behind : List Met → List Visit → List Met
met_behind met [] = met
met_behind met (v ∷ visits) = met_behind (met ++ met_by met v ∷ []) visits

abbrev pub met_of : List Visit → List Met
met_of visits = met_behind [] visits

-- the pair was met
abbrev pub IsMet : List Met → ℕ → ℕ → Type 0
IsMet met g s = (m : Met) × Contains met m × (m.general ≡ g) × (m.special ≡ s)

-- the special states that a general state was paired with
abbrev pub partners_at : List (List ℕ) → ℕ → List ℕ
partners_at partners g = get_or partners g []

-- a link leads to a pair before this number
abbrev pub IsLinkBelow : ℕ → Option Link → Type 0
IsLinkBelow k None = Unit {0}
IsLinkBelow k (Some link) = link.from < k

-- past the end it is a pair without a link
abbrev pub visit_at : List Visit → ℕ → Visit
visit_at visits k =
    get_or visits k (record { pair = record { general = record { 0 = 0 }; special = record { 0 = 0 } }; link = None })

pub record IsQueue (visits : List Visit) (partners : List (List ℕ)) : Type 0 where
  pub linked : (k : ℕ) → k < length visits → IsLinkBelow k (visit_at visits k).link
  pub members : (g s : ℕ) → Contains (partners_at partners g) s ↔ IsMet (met_of visits) g s

-- the pairs that were met, and for how many general states
pub record Queue : Type 0 where
  pub states : ℕ
  pub met : List Met

-- The pair was met before, or it is added with one more step behind that pair's.
abbrev pub Meets : List Met → ℕ → Step → ℕ → ℕ → List Met → Type 0
Meets old from step g s new =
    (IsMet old g s × (new ≡ old))
    ⊎ (new ≡ old ++ record { general = g; special = s; steps = (met_at old from).steps ++ step ∷ [] } ∷ [])
