-- Claims that stand on one another, in circles too.
use Rattle.std.specs.Prelude.{◌≡◌, ◌⊎◌, ℕ, ◌<◌, Bool, true, false, List, length, All, Option, Some, None, get_or}
use Rattle.mls_flow.specs.declared.standing.Claim.{Claim}

-- the first or the second list of a claim
abbrev pub way : Claim → Bool → Option (List ℕ)
way c false = c.first
way c true = c.second

-- the members of both lists are claims
abbrev pub IsWayAmong : ℕ → Option (List ℕ) → Type 0
IsWayAmong n None = Unit {0}
IsWayAmong n (Some xs) = All (λ j. j < n) xs

abbrev pub IsAmong : ℕ → Claim → Type 0
IsAmong n c = IsWayAmong n c.first × IsWayAmong n c.second

-- the list is there, and all its claims are in the set
abbrev pub AllIn : (ℕ → Bool) → Option (List ℕ) → Type 0
AllIn kept None = ⊥
AllIn kept (Some xs) = All (λ j. kept j ≡ true) xs

-- the claim holds of itself, or one of its lists is in the set
abbrev pub Stands : (ℕ → Bool) → Claim → Type 0
Stands kept c = (c.holds ≡ true) ⊎ (AllIn kept c.first ⊎ AllIn kept c.second)

abbrev pub no_claim : Claim
no_claim = record { holds = false; first = None; second = None }

abbrev pub claim_at : List Claim → ℕ → Claim
claim_at claims i = get_or claims i no_claim

-- each claim of the set stands by claims of the set
abbrev pub StandTogether : List Claim → (ℕ → Bool) → Type 0
StandTogether claims kept = (i : ℕ) → i < length claims → kept i ≡ true → Stands kept (claim_at claims i)

abbrev pub kept_at : List Bool → ℕ → Bool
kept_at marks i = get_or marks i false

-- the marks are those of the greatest set of claims that stand together
pub record IsGreatest (claims : List Claim) (marks : List Bool) : Type 0 where
  pub together : StandTogether claims (kept_at marks)
  pub greatest : (kept : ℕ → Bool) → StandTogether claims kept → (i : ℕ) → i < length claims → kept i ≡ true
      → kept_at marks i ≡ true
