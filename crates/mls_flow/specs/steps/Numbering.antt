-- Where the numbers of pairs are kept: for each negative state a map from positive states.
use Rattle.std.specs.Prelude.{◌≡◌, ◌↔◌, ℕ, ◌<◌, List, length, All, Option, Some, None, slice_get}
use Rattle.std.specs.Ordering.{nat_cmp}
use Rattle.std.specs.BTreeMap.{BTreeMap, get}
use Rattle.mls_automaton.specs.declared.automaton.Flow.{Flow}
use Rattle.mls_flow.specs.Pairs.{IsAt}

abbrev pub number_in_row : Option (BTreeMap ℕ ℕ) → ℕ → Option ℕ
number_in_row None p = None
number_in_row (Some row) p = get nat_cmp row p

abbrev pub number_in : List (BTreeMap ℕ ℕ) → ℕ → ℕ → Option ℕ
number_in rows n p = number_in_row (slice_get rows n) p

-- each pair has its number, and nothing else has one
pub record IsNumbering (list : List Flow) (rows : List (BTreeMap ℕ ℕ)) : Type 0 where
  pub low : All (λ (f : Flow). f.negative.0 < length rows) list
  pub just : (n p k : ℕ) → (number_in rows n p ≡ Some k) ↔ (IsAt list k n p)
