-- The constraint that was posed, and where in it the states are that the goals of a node name.
use Rattle.std.specs.Prelude.{◌≡◌, ℕ, suc, true, List, [], ◌∷◌, map, Some}
use Rattle.std.specs.BTreeMap.{get}
use Rattle.std.specs.Ordering.{nat_cmp}
use Rattle.mls_automaton.specs.Automata.{head_at, HasFlow}
use Rattle.mls_infer.specs.Posed.{goal_pair}
use Rattle.mls_term.specs.declared.term.TermForm.{TermForm}
use Rattle.mls_term.specs.declared.term.TermForm.TheVariants as form
use Rattle.mls_layout.specs.Parts.{Constraint, IsGoalOf}
use Rattle.mls_layout.specs.Posed.{HasArms}
use Rattle.mls_parts.specs.declared.pose.Posing.{Posing}
use Rattle.mls_parts.specs.Posings.{one_field, root_in}

-- the constraint that was posed, with its goals as pairs
abbrev pub constraint_of : Posing → Constraint
constraint_of p = record { automaton = p.automaton; goals = map goal_pair p.goals }

-- The root of an application is this state: the result is the next one, and behind it stands the state of the goal, a
-- function from the argument to the result.
abbrev pub IsAppliedAt : Constraint → Posing → (function argument root : ℕ) → Type 0
IsAppliedAt c p j k root =
    HasArms c.automaton (suc (suc root)) (root_in p k ∷ []) (suc root ∷ [])
    × IsGoalOf c (root_in p j) (suc (suc root)) × HasFlow c.automaton (suc root) root

-- The root of a projection is this state: the result is the next one, and behind it stands the state of the goal, a
-- record of the one label.
abbrev pub IsProjectedAt : Constraint → Posing → (body : ℕ) → List ℕ → (root : ℕ) → Type 0
IsProjectedAt c p j label root =
    ((head_at c.automaton (suc (suc root))).fields ≡ Some (one_field label (suc root)))
    × IsGoalOf c (root_in p j) (suc (suc root)) × HasFlow c.automaton (suc root) root

-- The goals of an application, a projection and a conditional, and the heads of numbers and truth values, where the
-- node was posed: what is noted of a conditional is the state that its branches go into.
abbrev pub IsPosedAt : Constraint → Posing → TermForm → ℕ → Type 0
IsPosedAt c p (form.Number value) i = (head_at c.automaton (root_in p i)).integer ≡ true
IsPosedAt c p (form.Truth value) i = (head_at c.automaton (root_in p i)).boolean ≡ true
IsPosedAt c p (form.Apply j k) i = IsAppliedAt c p j k (root_in p i)
IsPosedAt c p (form.Project j label) i = IsProjectedAt c p j label (root_in p i)
IsPosedAt c p (form.If j k l) i =
    (bit into : ℕ) × (get nat_cmp p.results i ≡ Some into) × ((head_at c.automaton bit).boolean ≡ true)
    × IsGoalOf c (root_in p j) bit × IsGoalOf c (root_in p k) into × IsGoalOf c (root_in p l) into
    × HasFlow c.automaton into (root_in p i)
IsPosedAt c p _ i = Unit {0}
