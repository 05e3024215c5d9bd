-- How claims lose their ways to stand, one list at a time.
use Rattle.std.specs.Prelude.{◌≡◌, ◌⊎◌, ◌↔◌, ℕ, ◌<◌, ◌+◌, Bool, true, false, not, cond, ◌||◌, ◌&&◌, List, [], ◌∷◌, ◌++◌}
use Rattle.std.specs.Prelude.{length, All, Contains, IsSome, Option, Some, None, get_or, is_some, set}
use Rattle.std.specs.List.{sum_by}
use Rattle.mls_flow.specs.declared.standing.Claim.{Claim}
use Rattle.mls_flow.specs.declared.standing.Left.{Left}
use Rattle.mls_flow.specs.declared.standing.Use.{Use}
use Rattle.mls_flow.specs.Claims.{way, AllIn, StandTogether, claim_at}

-- the list is there and has the member
abbrev pub IsIn : Option (List ℕ) → ℕ → Type 0
IsIn None j = ⊥
IsIn (Some xs) j = Contains xs j

-- the claim is in a list of another
abbrev pub IsUse : List Claim → Use → ℕ → Type 0
IsUse claims u j = IsIn (way (claim_at claims u.claim) u.is_second) j

-- the uses that were added to those of each claim
pub record AddsUses (old new : List (List Use)) (IsAdded : Use → ℕ → Type 0) : Type 0 where
  pub same_length : length new ≡ length old
  pub just : (u : Use) (j : ℕ) → j < length old
      → Contains (get_or new j []) u ↔ (Contains (get_or old j []) u ⊎ IsAdded u j)

-- for each claim the lists in which it stands
pub record IsUsesOf (claims : List Claim) (uses : List (List Use)) : Type 0 where
  pub same_length : length uses ≡ length claims
  pub just : (u : Use) (j : ℕ) → j < length claims
      → Contains (get_or uses j []) u ↔ ((u.claim < length claims) × IsUse claims u j)

-- all that a claim has is left
abbrev pub all_of : Claim → Left
all_of c = record { holds = c.holds; first = is_some c.first; second = is_some c.second }

-- whether the list is left
abbrev pub is_open : Left → Bool → Bool
is_open l false = l.first
is_open l true = l.second

-- whether any way is left
abbrev pub is_left : Left → Bool
is_left l = l.holds || (l.first || l.second)

abbrev pub without : Bool → Left → Left
without false l = record { holds = l.holds; first = false; second = l.second }
without true l = record { holds = l.holds; first = l.first; second = false }

abbrev pub no_left : Left
no_left = record { holds = false; first = false; second = false }

abbrev pub left_at : List Left → ℕ → Left
left_at lefts i = get_or lefts i no_left

-- what is left of each claim, and the claims that are lost, in the order in which they were
pub record Losses : Type 0 where
  pub left : List Left
  pub lost : List ℕ

-- one list less
abbrev pub close : Losses → Use → Losses
close s u =
    let l = left_at s.left u.claim in
    let m = without u.is_second l in
    record {
      left = set s.left u.claim m;
      lost = cond (is_left l && not (is_left m)) (s.lost ++ u.claim ∷ []) s.lost;
    }

-- no set of claims that stand together has all of the list
abbrev pub IsUnsupported : List Claim → Use → Type 0
IsUnsupported claims u = (kept : ℕ → Bool) → StandTogether claims kept
    → AllIn kept (way (claim_at claims u.claim) u.is_second) → ⊥

-- What is left can stand, and what is not left cannot.
pub record IsLeft (claims : List Claim) (lefts : List Left) : Type 0 where
  pub same_length : length lefts ≡ length claims
  pub holds : (i : ℕ) → i < length claims → (left_at lefts i).holds ≡ (claim_at claims i).holds
  pub present : (i : ℕ) → i < length claims → (second : Bool) → is_open (left_at lefts i) second ≡ true
      → IsSome (way (claim_at claims i) second)
  pub absent : (i : ℕ) → i < length claims → (second : Bool) → is_open (left_at lefts i) second ≡ false
      → IsUnsupported claims (record { claim = i; is_second = second })

abbrev pub weight : Left → ℕ
weight l = cond (is_left l) 1 0

-- the lost claims are those of which nothing is left, each once
pub record AreLost (lefts : List Left) (lost : List ℕ) : Type 0 where
  pub all : (i : ℕ) → i < length lefts → is_left (left_at lefts i) ≡ false → Contains lost i
  pub each : All (λ i. (i < length lefts) × (is_left (left_at lefts i) ≡ false)) lost
  pub count : sum_by weight lefts + length lost ≡ length lefts

-- no list in which one of the first lost claims stands is left
abbrev pub AreTaken : List Claim → List Left → List ℕ → ℕ → Type 0
AreTaken claims lefts lost next =
    (k : ℕ) → k < next → (u : Use) → u.claim < length claims → IsUse claims u (get_or lost k 0)
    → is_open (left_at lefts u.claim) u.is_second ≡ false

pub record AreLosses (claims : List Claim) (next : ℕ) (s : Losses) : Type 0 where
  pub is_left : IsLeft claims s.left
  pub are_lost : AreLost s.left s.lost
  pub taken : AreTaken claims s.left s.lost next
