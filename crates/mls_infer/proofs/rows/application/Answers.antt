use Rattle.std.proofs.Common.{◌≡◌, ◌+◌, ◌++◌, ◌∙◌, rules}
use Rattle.mls_automaton.specs.Embeddings.{appended}
use Rattle.mls_automaton.specs.declared.scheme.Scheme.{Scheme}
use Rattle.mls_infer.specs.Constraints.{size, apply_constraint}
use Rattle.mls_infer.specs.Posed.{scheme_in}
use Rattle.mls_infer.specs.Joining.{raised_entries}
use Rattle.mls_infer.proofs.BuiltConstraints.{beside_flows, applied_over}
use Rattle.mls_infer.proofs.ClosedConstraints.{apply_closed}
use Rattle.mls_infer.proofs.WellBuilt.{states_built, goals_built}
use Rattle.mls_infer.proofs.rows.application.Goals as goal

pub application_of-requires : goal.application_of-requires
application_of-requires c =
    let is : c.add.new.self.automaton ≡ appended c.args.function.automaton c.args.argument.now.automaton = search rules in
    beside_flows c.args.function.automaton c.args.argument.now.automaton c.add.new.self.automaton is c.requires.function.automaton c.requires.argument.automaton

pub returns-clause-constraint : goal.returns-clause-constraint
returns-clause-constraint c =
    let s : Scheme = scheme_in c.args.function in
    let t : Scheme = scheme_in c.args.argument.now in
    let a_is : c.add.new.self.automaton ≡ appended s.automaton t.automaton = search rules in
    let env_is : c.add.new.self.env ≡ s.env ++ raised_entries (size s.automaton) t.env = search rules in
    let root_is : c.in_ok-argument_root.argument_root.0 ≡ size s.automaton + t.root.0 = search rules in
    c.in_ok-posed.ensures ∙ applied_over s t c.add.new.self.automaton c.add.new.self.env c.in_ok-argument_root.argument_root.0 a_is env_is root_is

pub returns-clause-states : goal.returns-clause-states
returns-clause-states c =
    states_built c.in_ok-posed.posed (apply_constraint (scheme_in c.args.function) (scheme_in c.args.argument.now)) (returns-clause-constraint c)
    (apply_closed (scheme_in c.args.function) (scheme_in c.args.argument.now) c.requires.function c.requires.argument)

pub returns-clause-goals : goal.returns-clause-goals
returns-clause-goals c =
    goals_built c.in_ok-posed.posed (apply_constraint (scheme_in c.args.function) (scheme_in c.args.argument.now)) (returns-clause-constraint c)
    (apply_closed (scheme_in c.args.function) (scheme_in c.args.argument.now) c.requires.function c.requires.argument)
