use Rattle.std.proofs.Common.{◌≡◌, suc, [], ◌∷◌, rules, length, map, refl}
use Rattle.mls_automaton.specs.Automata.{with_state}
use Rattle.mls_automaton.specs.declared.scheme.Scheme.{Scheme}
use Rattle.mls_infer.specs.Constraints.{negative, record_head, size}
use Rattle.mls_infer.specs.Posed.{goal_pair, scheme_in}
use Rattle.mls_infer.specs.Joining.{field_of, with_passage}
use Rattle.mls_infer.proofs.BuiltConstraints.{project_built}
use Rattle.mls_infer.specs.Constraints.{project_constraint}
use Rattle.mls_infer.proofs.ClosedConstraints.{project_closed}
use Rattle.mls_infer.proofs.WellBuilt.{states_built, goals_built}
use Rattle.mls_infer.proofs.rows.projection.Goals as goal

pub returns-clause-constraint : goal.returns-clause-constraint
returns-clause-constraint c =
    let s : Scheme = scheme_in c.args.body in
    let b_is : c.add_passage.new.automaton ≡ with_passage s.automaton = search rules in
    let d_is : c.state.new.self ≡ with_state c.add_passage.new.automaton (negative c.in_ok-head.head) = search rules in
    let head_is : c.in_ok-head.head ≡ record_head (field_of c.args.label.now c.in_ok-field.field.0 ∷ []) = search rules in
    let field_is : c.in_ok-field.field.0 ≡ size s.automaton = search rules in
    let root_is : c.in_ok-field.root.0 ≡ suc (size s.automaton) = search rules in
    let demand_is : c.in_ok-demand.demand.0 ≡ length c.add_passage.new.automaton.states = search rules in
    let goals_is : map goal_pair c.in_ok-goals.goals ≡ (s.root.0, c.in_ok-demand.demand.0) ∷ [] = search rules in
    project_built c.args.label.now s c.add_passage.new.automaton c.state.new.self s.env c.in_ok-field.field.0 c.in_ok-field.root.0 c.in_ok-demand.demand.0 c.in_ok-head.head (map goal_pair c.in_ok-goals.goals)
    refl b_is d_is head_is field_is root_is demand_is goals_is

pub returns-clause-states : goal.returns-clause-states
returns-clause-states c =
    states_built (record { automaton = c.state.new.self; env = c.args.body.env; root = c.in_ok-field.root; goals = c.in_ok-goals.goals }) (project_constraint c.args.label.now (scheme_in c.args.body)) (returns-clause-constraint c)
    (project_closed c.args.label.now (scheme_in c.args.body) c.requires)

pub returns-clause-goals : goal.returns-clause-goals
returns-clause-goals c =
    goals_built (record { automaton = c.state.new.self; env = c.args.body.env; root = c.in_ok-field.root; goals = c.in_ok-goals.goals }) (project_constraint c.args.label.now (scheme_in c.args.body)) (returns-clause-constraint c)
    (project_closed c.args.label.now (scheme_in c.args.body) c.requires)
