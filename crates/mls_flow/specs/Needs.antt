-- What pairs of states need, by which their heads are matched, and the claims that say it by numbers.
use Rattle.std.specs.Prelude.{◌≡◌, ◌⊎◌, ◌↔◌, ℕ, ◌<◌, Bool, true, cond, List, [], ◌∷◌, ◌++◌, map, length, All, Contains}
use Rattle.std.specs.Prelude.{Option, Some, None, get_or, is_some, unwrap_or}
use Rattle.std.specs.List.{list_all}
use Rattle.mls_automaton.specs.declared.automaton.Arms.{Arms}
use Rattle.mls_automaton.specs.declared.automaton.FieldSet.{FieldSet}
use Rattle.mls_automaton.specs.declared.automaton.Flow.{Flow}
use Rattle.mls_automaton.specs.declared.automaton.Head.{Head}
use Rattle.mls_automaton.specs.declared.automaton.Polarity.TheVariants.{Positive, Negative}
use Rattle.mls_automaton.specs.Automata.{Automaton, flow, head_at, HasFlow, IsState}
use Rattle.mls_automaton.specs.Heads.{set_at}
use Rattle.mls_flow.specs.declared.standing.Claim.{Claim}
use Rattle.mls_flow.specs.Claims.{AllIn, claim_at}

-- the one member of a set
abbrev pub only : List ℕ → ℕ
only set = get_or set 0 0

-- the domains the other way round, and the codomains
abbrev pub function_needs : Option Arms → Option Arms → Option (List Flow)
function_needs (Some arms) (Some others) =
    Some (flow (only others.domain) (only arms.domain) ∷ flow (only arms.codomain) (only others.codomain) ∷ [])
function_needs _ _ = None

-- whether the first record has each label of the second
abbrev pub has_all : List FieldSet → List FieldSet → Bool
has_all fields others = list_all (λ (other : FieldSet). is_some (set_at fields other.label)) others

abbrev pub field_need : List FieldSet → FieldSet → Flow
field_need fields other = flow (only (unwrap_or (set_at fields other.label) [])) (only other.set)

-- the fields at the labels of the second record, where the first has each of them
abbrev pub record_needs : Option (List FieldSet) → Option (List FieldSet) → Option (List Flow)
record_needs (Some fields) (Some others) = cond (has_all fields others) (Some (map (field_need fields) others)) None
record_needs _ _ = None

-- a base type of both
abbrev pub HasCommonBase : Head → Head → Type 0
HasCommonBase h k = ((h.boolean ≡ true) × (k.boolean ≡ true)) ⊎ ((h.integer ≡ true) × (k.integer ≡ true))

-- an edge, or a base type of both
abbrev pub HoldsAtOnce : Automaton → ℕ → ℕ → Type 0
HoldsAtOnce a n p = HasFlow a n p ⊎ HasCommonBase (head_at a n) (head_at a p)

-- a negative and a positive state
abbrev pub IsPair : Automaton → Flow → Type 0
IsPair a f = IsState a Negative f.negative.0 × IsState a Positive f.positive.0

-- further pairs of this kind behind those that were there
abbrev pub Extends : (Flow → Type 0) → List Flow → List Flow → Type 0
Extends P old new = (more : List Flow) × (new ≡ old ++ more) × All P more

abbrev pub pair_at : List Flow → ℕ → Flow
pair_at list k = get_or list k (flow 0 0)

-- one of these pairs
abbrev pub IsOneOf : Option (List Flow) → Flow → Type 0
IsOneOf None f = ⊥
IsOneOf (Some needs) f = Contains needs f

-- the numbers are those of these pairs
abbrev pub AreNumbers : List Flow → List ℕ → List Flow → Type 0
AreNumbers list numbers needs = All (λ k. k < length list) numbers × (map (pair_at list) numbers ≡ needs)

abbrev pub IsNumbered : List Flow → Option (List ℕ) → Option (List Flow) → Type 0
IsNumbered list None None = Unit {0}
IsNumbered list (Some numbers) (Some needs) = AreNumbers list numbers needs
IsNumbered list _ _ = ⊥

-- each of these pairs is in the relation
abbrev pub AreNeedsMet : (ℕ → ℕ → Type 0) → Option (List Flow) → Type 0
AreNeedsMet R None = ⊥
AreNeedsMet R (Some needs) = All (λ (f : Flow). R f.negative.0 f.positive.0) needs

-- what a pair stands on, by the numbers of the pairs
pub record IsClaimOf (a : Automaton) (list : List Flow) (f : Flow) (c : Claim) : Type 0 where
  pub holds : (c.holds ≡ true) ↔ HoldsAtOnce a f.negative.0 f.positive.0
  pub first : IsNumbered list c.first
      (function_needs (head_at a f.negative.0).function (head_at a f.positive.0).function)
  pub second : IsNumbered list c.second (record_needs (head_at a f.negative.0).fields (head_at a f.positive.0).fields)

-- a claim for each of the first pairs
pub record AreClaimsOf (a : Automaton) (list : List Flow) (claims : List Claim) : Type 0 where
  pub each : (k : ℕ) → k < length claims → IsClaimOf a list (pair_at list k) (claim_at claims k)

-- a base type of both, or one of the claim's lists is in the set: what the claim stands on without the edge
abbrev pub StandsByHeads : (ℕ → Bool) → Head → Head → Claim → Type 0
StandsByHeads kept h k c = HasCommonBase h k ⊎ (AllIn kept c.first ⊎ AllIn kept c.second)

-- a claim of the pair stands so
abbrev pub IsSaid : Automaton → List Flow → List Claim → (ℕ → Bool) → Flow → Type 0
IsSaid a list claims kept f =
    (k : ℕ) × (k < length list) × (pair_at list k ≡ f)
    × StandsByHeads kept (head_at a f.negative.0) (head_at a f.positive.0) (claim_at claims k)

-- Of these edges those are kept that no claim says.
abbrev pub AreKeptOf : (Flow → Type 0) → List Flow → List Flow → Type 0
AreKeptOf IsSaid edges kept =
    ((f : Flow) → Contains kept f → Contains edges f × (IsSaid f → ⊥))
    × ((f : Flow) → Contains edges f → Contains kept f ⊎ IsSaid f)
