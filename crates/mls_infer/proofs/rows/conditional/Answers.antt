use Rattle.std.proofs.Common.{◌≡◌, ◌+◌, ◌++◌, suc, [], ◌∷◌, rules, map}
use Rattle.mls_automaton.specs.Automata.{Automaton, with_state}
use Rattle.mls_automaton.specs.Embeddings.{appended}
use Rattle.mls_automaton.specs.declared.scheme.Scheme.{Scheme}
use Rattle.mls_infer.specs.Constraints.{negative, size, bool_head}
use Rattle.mls_infer.specs.Posed.{goal_pair, scheme_in}
use Rattle.mls_infer.specs.Joining.{raised_entries, with_passage}
use Rattle.mls_infer.proofs.BuiltConstraints.{choice_built}
use Rattle.mls_infer.specs.Constraints.{choice_constraint}
use Rattle.mls_infer.proofs.ClosedConstraints.{choice_closed}
use Rattle.mls_infer.proofs.WellBuilt.{states_built, goals_built}
use Rattle.mls_infer.proofs.rows.conditional.Goals as goal

pub returns-clause-constraint : goal.returns-clause-constraint
returns-clause-constraint c =
    let r : Scheme = scheme_in c.args.condition in
    let s : Scheme = scheme_in c.args.first.now in
    let t : Scheme = scheme_in c.args.second.now in
    let a : Automaton = c.add.new.self.automaton in
    let b : Automaton = c.add-2.new.self.automaton in
    let a_is : a ≡ appended r.automaton s.automaton = search rules in
    let b_is : b ≡ appended a t.automaton = search rules in
    let env_is : c.add.new.self.env ≡ r.env ++ raised_entries (size r.automaton) s.env = search rules in
    let env'_is : c.add-2.new.self.env ≡ c.add.new.self.env ++ raised_entries (size a) t.env = search rules in
    let second_is : c.in_ok-first_root.first_root.0 ≡ size r.automaton + s.root.0 = search rules in
    let third_is : c.in_ok-second_root.second_root.0 ≡ size a + t.root.0 = search rules in
    let c_is : c.state.new.self ≡ with_state b (negative bool_head) = search rules in
    let boolean_is : c.in_ok-boolean.boolean.0 ≡ size b = search rules in
    let d_is : c.add_passage.new.automaton ≡ with_passage c.state.new.self = search rules in
    let either_is : c.in_ok-either.either.0 ≡ size c.state.new.self = search rules in
    let root_is : c.in_ok-either.root.0 ≡ suc (size c.state.new.self) = search rules in
    let goals_is : map goal_pair c.add_goal-2.new.goals ≡ (r.root.0, c.in_ok-boolean.boolean.0) ∷ (c.in_ok-first_root.first_root.0, c.in_ok-either.either.0) ∷ (c.in_ok-second_root.second_root.0, c.in_ok-either.either.0) ∷ [] = search rules in
    choice_built r s t a b c.state.new.self c.add_passage.new.automaton c.add.new.self.env c.add-2.new.self.env c.in_ok-first_root.first_root.0 c.in_ok-second_root.second_root.0 c.in_ok-boolean.boolean.0 c.in_ok-either.either.0 c.in_ok-either.root.0 (map goal_pair c.add_goal-2.new.goals)
    a_is b_is env_is env'_is second_is third_is c_is boolean_is d_is either_is root_is goals_is

pub returns-clause-states : goal.returns-clause-states
returns-clause-states c =
    states_built (record { automaton = c.add_passage.new.automaton; env = c.add-2.new.self.env; root = c.in_ok-either.root; goals = c.add_goal-2.new.goals }) (choice_constraint (scheme_in c.args.condition) (scheme_in c.args.first.now) (scheme_in c.args.second.now)) (returns-clause-constraint c)
    (choice_closed (scheme_in c.args.condition) (scheme_in c.args.first.now) (scheme_in c.args.second.now) c.requires.condition c.requires.first c.requires.second)

pub returns-clause-goals : goal.returns-clause-goals
returns-clause-goals c =
    goals_built (record { automaton = c.add_passage.new.automaton; env = c.add-2.new.self.env; root = c.in_ok-either.root; goals = c.add_goal-2.new.goals }) (choice_constraint (scheme_in c.args.condition) (scheme_in c.args.first.now) (scheme_in c.args.second.now)) (returns-clause-constraint c)
    (choice_closed (scheme_in c.args.condition) (scheme_in c.args.first.now) (scheme_in c.args.second.now) c.requires.condition c.requires.first c.requires.second)
