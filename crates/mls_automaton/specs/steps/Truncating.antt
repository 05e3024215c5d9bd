-- States that are taken out of the index that finds the edges at a state.
use Rattle.std.specs.Prelude.{◌≡◌, ◌⊎◌, ℕ, ◌<◌, ◌≤◌, List, [], length, get_or, Contains}
use Rattle.mls_automaton.specs.declared.automaton.Flow.{Flow}
use Rattle.mls_automaton.specs.Sets.{Rises}

-- both ends of the edge have sets
abbrev pub HasSets : List (List ℕ) → Flow → Type 0
HasSets partners f = (f.negative.0 < length partners) × (f.positive.0 < length partners)

-- the state of this number has no partner from n on
abbrev pub HasLowPartners : ℕ → List (List ℕ) → ℕ → Type 0
HasLowPartners n partners s = (j : ℕ) → Contains (get_or partners s []) j → j < n

-- no set has more members than before, and none has lost a number below n
pub record Shrinks (n : ℕ) (old new : List (List ℕ)) : Type 0 where
  pub same_length : length new ≡ length old
  pub rising : (s : ℕ) → Rises (get_or old s []) → Rises (get_or new s [])
  pub kept : (s j : ℕ) → Contains (get_or new s []) j → Contains (get_or old s []) j
  pub low : (s j : ℕ) → j < n → Contains (get_or old s []) j → Contains (get_or new s []) j

-- and the sets at this state have lost all from n on
pub record IsForgottenAt (n s : ℕ) (old new : List (List ℕ)) : Type 0 where
  pub shrinks : Shrinks n old new
  pub gone : HasLowPartners n new s

-- the same at both ends of each of these edges that has an end from n on
pub record AreForgotten (n : ℕ) (flows : List Flow) (old new : List (List ℕ)) : Type 0 where
  pub shrinks : Shrinks n old new
  pub gone : (f : Flow) → Contains flows f → (n ≤ f.negative.0) ⊎ (n ≤ f.positive.0)
      → HasLowPartners n new f.negative.0 × HasLowPartners n new f.positive.0
