-- The closed relation of goals: what has to hold where they hold.
use Rattle.std.specs.Prelude.{◌≡◌, ℕ, Bool, true, List, Contains, Some}
use Rattle.mls_automaton.specs.declared.automaton.Arms.{Arms}
use Rattle.mls_automaton.specs.declared.automaton.FieldSet.{FieldSet}
use Rattle.mls_automaton.specs.declared.automaton.Polarity.TheVariants.{Positive, Negative}
use Rattle.mls_automaton.specs.Automata.{Automaton, head_at, HasFlow, IsState}
use Rattle.mls_automaton.specs.Heads.{set_at}
use Rattle.mls_solver.specs.declared.goal.Goal.{Goal}

-- the goals ask this of the pair
abbrev pub IsGoal : List Goal → ℕ → ℕ → Type 0
IsGoal goals p n = Contains goals (record { positive = record { 0 = p }; negative = record { 0 = n } })

-- a goal goes from a positive state to a negative one
abbrev pub IsGoalOf : Automaton → Goal → Type 0
IsGoalOf a g = IsState a Positive g.positive.0 × IsState a Negative g.negative.0

-- state s has a function with state m in its domain, or in its codomain
abbrev pub InDomain : Automaton → ℕ → ℕ → Type 0
InDomain a s m = (arms : Arms) × ((head_at a s).function ≡ Some arms) × Contains arms.domain m

abbrev pub InCodomain : Automaton → ℕ → ℕ → Type 0
InCodomain a s m = (arms : Arms) × ((head_at a s).function ≡ Some arms) × Contains arms.codomain m

-- state s has a record with state m at this label
abbrev pub InField : Automaton → ℕ → List ℕ → ℕ → Type 0
InField a s label m =
    (fields : List FieldSet) × (set : List ℕ)
    × ((head_at a s).fields ≡ Some fields)
    × (set_at fields label ≡ Some set)
    × Contains set m

-- The closed relation: the goals, and what follows from them by heads and along edges.
pub data IsRelated (a : Automaton) (IsGoal : ℕ → ℕ → Type 0) : ℕ → ℕ → Type 0 where
  goal : {p n : ℕ} → IsGoal p n → IsRelated a IsGoal p n
  domain : {p n q m : ℕ} → IsRelated a IsGoal p n → InDomain a n q → InDomain a p m → IsRelated a IsGoal q m
  codomain : {p n q m : ℕ} → IsRelated a IsGoal p n → InCodomain a p q → InCodomain a n m → IsRelated a IsGoal q m
  field : {p n q m : ℕ} (label : List ℕ) → IsRelated a IsGoal p n → InField a p label q → InField a n label m
      → IsRelated a IsGoal q m
  along : {p n q m : ℕ} → IsRelated a IsGoal p n → HasFlow a n q → IsRelated a IsGoal q m → IsRelated a IsGoal p m

-- the table holds exactly the related pairs
pub record IsTable (IsRelated : ℕ → ℕ → Type 0) (holds : ℕ → ℕ → Bool) : Type 0 where
  pub sound : (p n : ℕ) → holds p n ≡ true → IsRelated p n
  pub complete : (p n : ℕ) → IsRelated p n → holds p n ≡ true
