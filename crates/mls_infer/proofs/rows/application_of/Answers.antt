use Rattle.std.proofs.Common.{◌≡◌, suc, ◌∷◌, [], rules, length, map, refl}
use Rattle.mls_automaton.specs.Automata.{Automaton, with_state}
use Rattle.mls_infer.specs.Constraints.{negative, size, function_head}
use Rattle.mls_infer.specs.Posed.{goal_pair}
use Rattle.mls_infer.specs.Joining.{with_passage}
use Rattle.mls_infer.proofs.BuiltConstraints.{application_built}
use Rattle.mls_infer.proofs.rows.application_of.Goals as goal

pub returns : goal.returns
returns c =
    let a : Automaton = c.args.both.automaton in
    let b_is : c.add_passage.new.automaton ≡ with_passage a = search rules in
    let d_is : c.state.new.self ≡ with_state c.add_passage.new.automaton (negative c.in_ok-head.head) = search rules in
    let head_is : c.in_ok-head.head ≡ function_head (c.args.argument.0 ∷ []) (c.in_ok-codomain.codomain.0 ∷ []) = search rules in
    let codomain_is : c.in_ok-codomain.codomain.0 ≡ size a = search rules in
    let root_is : c.in_ok-codomain.root.0 ≡ suc (size a) = search rules in
    let demand_is : c.in_ok-demand.demand.0 ≡ length c.add_passage.new.automaton.states = search rules in
    let goals_is : map goal_pair c.in_ok-goals.goals ≡ (c.args.function.0, c.in_ok-demand.demand.0) ∷ [] = search rules in
    application_built (record { automaton = a; env = c.args.both.env; roots = [] }) c.args.function.0 c.args.argument.0 a
    c.add_passage.new.automaton c.state.new.self c.args.both.env c.args.argument.0 c.in_ok-codomain.codomain.0 c.in_ok-codomain.root.0
    c.in_ok-demand.demand.0 c.in_ok-head.head (map goal_pair c.in_ok-goals.goals)
    refl refl b_is d_is head_is refl codomain_is root_is demand_is goals_is
