-- States that are kept, and their new numbers.
use Rattle.std.specs.Prelude.{◌≡◌, ◌↔◌, ◌⊎◌, ℕ, ◌<◌, Bool, true, false, List, length, get_or, Contains}
use Rattle.mls_automaton.specs.declared.automaton.Polarity.TheVariants.{Positive, Negative}
use Rattle.mls_automaton.specs.declared.automaton.Flow.{Flow}
use Rattle.mls_automaton.specs.declared.scheme.EnvEntry.{EnvEntry}
use Rattle.mls_automaton.specs.Automata.{Automaton, HasFlow, IsState, head_at}
use Rattle.mls_automaton.specs.Sets.{Rises}
use Rattle.mls_automaton.specs.steps.Numbers.{KeepsOrderInHead}

abbrev pub IsKept : List Bool → ℕ → Type 0
IsKept marks s = get_or marks s false ≡ true

-- the places are the marked ones in order, and each has its number among them
pub record AreKept (marks : List Bool) (places : List ℕ) (number : ℕ → ℕ) : Type 0 where
  pub rising : Rises places
  pub low : (i : ℕ) → i < length places → get_or places i 0 < length marks
  pub kept : (i : ℕ) → i < length places → IsKept marks (get_or places i 0)
  pub number_of : (i : ℕ) → i < length places → number (get_or places i 0) ≡ i
  pub place : (s : ℕ) → IsKept marks s → (number s < length places) × (get_or places (number s) 0 ≡ s)

-- the same of the marks below n, the numbers as a list
pub record AreKeptTo (n : ℕ) (marks : List Bool) (places numbers : List ℕ) : Type 0 where
  pub size : length numbers ≡ n
  pub rising : Rises places
  pub low : (i : ℕ) → i < length places → get_or places i 0 < n
  pub kept : (i : ℕ) → i < length places → IsKept marks (get_or places i 0)
  pub number_of : (i : ℕ) → i < length places → get_or numbers (get_or places i 0) 0 ≡ i
  pub place : (s : ℕ) → s < n → IsKept marks s
      → (get_or numbers s 0 < length places) × (get_or places (get_or numbers s 0) 0 ≡ s)

-- the state is there, and the members of the sets of its head keep their order
abbrev pub IsKeptState : Automaton → (ℕ → ℕ) → ℕ → Type 0
IsKeptState a number s = (s < length a.states) × KeepsOrderInHead number (head_at a s)

-- the ends of the edge have marks, and those that are kept are states under their new numbers
pub record HasKeptEnds (marks : List Bool) (number : ℕ → ℕ) (b : Automaton) (f : Flow) : Type 0 where
  pub negative_low : f.negative.0 < length marks
  pub positive_low : f.positive.0 < length marks
  pub negative : IsKept marks f.negative.0 → IsState b Negative (number f.negative.0)
  pub positive : IsKept marks f.positive.0 → IsState b Positive (number f.positive.0)

-- the edge, with both ends kept, is the one between these numbers
pub record IsFlowOf (marks : List Bool) (number : ℕ → ℕ) (n p : ℕ) (f : Flow) : Type 0 where
  pub negative_kept : IsKept marks f.negative.0
  pub positive_kept : IsKept marks f.positive.0
  pub negative : number f.negative.0 ≡ n
  pub positive : number f.positive.0 ≡ p

-- the automaton has just the edges of the list whose ends are both kept
abbrev pub HasFlowsOf : List Bool → (ℕ → ℕ) → List Flow → Automaton → Type 0
HasFlowsOf marks number flows b =
    (n p : ℕ) → HasFlow b n p ↔ ((f : Flow) × Contains flows f × IsFlowOf marks number n p f)

-- the second automaton has the edges of the first and this one, if its ends are kept
abbrev pub AddsFlowOf : List Bool → (ℕ → ℕ) → Flow → Automaton → Automaton → Type 0
AddsFlowOf marks number f old new = (n p : ℕ) → HasFlow new n p ↔ (HasFlow old n p ⊎ IsFlowOf marks number n p f)

abbrev pub renamed_entry : (ℕ → ℕ) → EnvEntry → EnvEntry
renamed_entry number entry = record { binder = entry.binder; state = record { 0 = number entry.state.0 } }
