-- Constraints as the program keeps them.
use Rattle.std.specs.Prelude.{◌≡◌, ℕ, List, map}
use Rattle.mls_automaton.specs.declared.automaton.Polarity.TheVariants.{Positive, Negative}
use Rattle.mls_automaton.specs.declared.automaton.FieldSet.{FieldSet}
use Rattle.mls_automaton.specs.declared.scheme.Scheme.{Scheme}
use Rattle.mls_automaton.specs.Automata.{Automaton, IsState}
use Rattle.mls_solver.specs.declared.goal.Goal.{Goal}
use Rattle.mls_infer.specs.declared.constraints.Constraints.{Constraints}
use Rattle.mls_infer.specs.declared.constraints.Open.{Open}
use Rattle.mls_infer.specs.Constraints.{Constraint, AreFieldsOf, joined, make_constraint}
use Rattle.mls_term.specs.Terms.{TermFields}
use Rattle.mls_term.specs.Derivations.{labels_of}

abbrev pub goal_pair : Goal → ℕ × ℕ
goal_pair g = (g.positive.0, g.negative.0)

-- a part without goals
abbrev pub scheme_in : Open → Scheme
scheme_in o = record { automaton = o.automaton; env = o.env; root = o.root }

abbrev pub constraint_of : Constraints → Constraint
constraint_of c = record {
  scheme = record { automaton = c.automaton; env = c.env; root = c.root };
  goals = map goal_pair c.goals;
}

-- a goal goes from a positive state to a negative one
abbrev pub IsGoalOf : Automaton → Goal → Type 0
IsGoalOf a g = IsState a Positive g.positive.0 × IsState a Negative g.negative.0

-- the constraint of a record whose parts have these labels, in the order of the text
abbrev pub IsMadeOf : List (List ℕ) → List Scheme → Constraint → Type 0
IsMadeOf labels ss c =
    (fields : List FieldSet) × ((parts : TermFields) → labels_of parts ≡ labels
    → AreFieldsOf parts (joined ss).roots fields) × (c ≡ make_constraint fields ss)
