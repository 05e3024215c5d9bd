use Rattle.std.proofs.Common.{rules}
use Rattle.mls_infer.specs.Constraints.{fix_constraint}
use Rattle.mls_infer.specs.Posed.{scheme_in}
use Rattle.mls_infer.proofs.ClosedConstraints.{fix_closed}
use Rattle.mls_infer.proofs.WellBuilt.{states_built, goals_built}
use Rattle.mls_infer.proofs.rows.recursion.Goals as goal

pub returns-clause-constraint : goal.returns-clause-constraint
returns-clause-constraint c = search rules

pub returns-clause-states : goal.returns-clause-states
returns-clause-states c =
    states_built (record { automaton = c.args.body.automaton; env = c.in_ok-env.env; root = c.args.body.root; goals = c.in_ok-goals.goals }) (fix_constraint c.args.binder (scheme_in c.args.body)) (returns-clause-constraint c)
    (fix_closed c.args.binder (scheme_in c.args.body) c.requires.states)

pub returns-clause-goals : goal.returns-clause-goals
returns-clause-goals c =
    goals_built (record { automaton = c.args.body.automaton; env = c.in_ok-env.env; root = c.args.body.root; goals = c.in_ok-goals.goals }) (fix_constraint c.args.binder (scheme_in c.args.body)) (returns-clause-constraint c)
    (fix_closed c.args.binder (scheme_in c.args.body) c.requires.states)
