-- The numbers of variables.
use Rattle.std.specs.Prelude.{◌≡◌, ℕ, ◌<◌, true, List, length, get_or, Contains, Option, Some, None}
use Rattle.mls_automaton.specs.declared.automaton.Polarity.{Polarity}
use Rattle.mls_automaton.specs.declared.automaton.Polarity.TheVariants.{Positive, Negative}
use Rattle.mls_automaton.specs.Automata.{Automaton, IsPartner}
use Rattle.mls_print.specs.Walks.{flows_into}

-- Of the first so many visited states those that have a variable have their printing number.
pub record HasVariablesTo (i : ℕ) (a : Automaton) (order : List ℕ) (numbers : List (Option ℕ)) : Type 0 where
  pub size : length numbers ≡ length a.states
  pub found : (s k : ℕ) → s < length a.states → get_or numbers s None ≡ Some k
      → (k < i) × (get_or order k 0 ≡ s) × (flows_into a order s ≡ true)
  pub has : (k : ℕ) → k < i → flows_into a order (get_or order k 0) ≡ true
      → get_or numbers (get_or order k 0) None ≡ Some k

abbrev pub HasVariables : Automaton → List ℕ → List (Option ℕ) → Type 0
HasVariables a order numbers = HasVariablesTo (length order) a order numbers

-- a state of the set has an edge to this state, or from it
abbrev pub HasPartner : Automaton → List ℕ → ℕ → Type 0
HasPartner a set j = (s : ℕ) × Contains set s × IsPartner a s j

-- the state may have a variable that the set shows
abbrev pub IsCandidate : Automaton → Polarity → List ℕ → ℕ → Type 0
IsCandidate a Negative set j = Contains set j
IsCandidate a Positive set j = HasPartner a set j
