-- What is built is closed, and its goals go from positive to negative states.
--     states_built, goals_built
use Rattle.std.proofs.Common.{◌≡◌, List, sym, subst, All, None}
use Rattle.std.specs.Prelude.{Option}
use Rattle.mls_automaton.specs.declared.automaton.Arms.{Arms}
use Rattle.mls_automaton.specs.declared.automaton.FieldSet.{FieldSet}
use Rattle.mls_automaton.specs.declared.automaton.Polarity.TheVariants.{Positive}
use Rattle.mls_automaton.specs.declared.automaton.Head.{Head}
use Rattle.mls_automaton.specs.Automata.{IsState}
use Rattle.mls_automaton.specs.Models.{HasArmsIn, HasFieldsIn, HasRisingLabels}
use Rattle.mls_automaton.proofs.Lists.{All-contained, Contains-map}
use Rattle.mls_infer.specs.declared.constraints.Constraints.{Constraints}
use Rattle.mls_infer.specs.Constraints.{Constraint, HasStates, literal_constraint}
use Rattle.mls_infer.specs.Posed.{constraint_of, goal_pair, IsGoalOf}
use Rattle.mls_infer.proofs.ClosedConstraints.{IsWellFormed, literal_closed}

well_formed : (c : Constraints) (d : Constraint) → constraint_of c ≡ d → IsWellFormed d → IsWellFormed (constraint_of c)
well_formed c d is h = let P : Constraint → Type 0 = λ c. IsWellFormed c in subst P (sym is) h

pub states_built : (c : Constraints) (d : Constraint) → constraint_of c ≡ d → IsWellFormed d → HasStates (constraint_of c).scheme
states_built c d is h = (well_formed c d is h).states

pub goals_built : (c : Constraints) (d : Constraint) → constraint_of c ≡ d → IsWellFormed d → All (IsGoalOf c.automaton) c.goals
goals_built c d is h =
    let it : IsWellFormed (constraint_of c) = well_formed c d is h in
    All-contained (IsGoalOf c.automaton) c.goals (λ g inside. it.goals g.positive.0 g.negative.0 (Contains-map goal_pair c.goals g inside))

-- a head without a function and without fields
pub plain_closed : (h : Head) → h.function ≡ None → h.fields ≡ None → IsWellFormed (literal_constraint h)
plain_closed h no_function no_fields =
    literal_closed h
    (λ a. record {
      function = subst (λ (o : Option Arms). HasArmsIn (IsState a) Positive o) (sym no_function) tt;
      fields = subst (λ (o : Option (List FieldSet)). HasFieldsIn (IsState a) Positive o) (sym no_fields) tt;
    })
    (subst (λ (o : Option (List FieldSet)). HasRisingLabels o) (sym no_fields) tt)
