-- Numbered pairs of states.
use Rattle.std.specs.Prelude.{◌≡◌, ℕ, ◌<◌, List, length, get_or}
use Rattle.mls_automaton.specs.declared.automaton.Flow.{Flow}
use Rattle.mls_automaton.specs.Automata.{flow}

-- Pairs of a negative and a positive state, each below so many states, in the order of their numbers.
pub record Pairs : Type 0 where
  pub states : ℕ
  pub list : List Flow

-- the number of a pair
abbrev pub IsAt : List Flow → ℕ → ℕ → ℕ → Type 0
IsAt list k n p = (k < length list) × (get_or list k (flow n p) ≡ flow n p)
