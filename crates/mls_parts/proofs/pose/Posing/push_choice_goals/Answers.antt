use Rattle.mls_solver.proofs.Answered.{on_ok}
use Rattle.mls_parts.proofs.Posings.{three_goals}
use Rattle.mls_parts.proofs.pose.Posing.push_choice_goals.Goals as goal_of

pub returns : goal_of.returns
returns c =
    on_ok c.push_goal-3.result _ _
    (λ third. three_goals c.args.self.now c.push_goal.new.self c.push_goal-2.new.self c.push_goal-3.new.self
    c.args.condition c.args.first c.args.second c.args.bit c.args.into c.root.result c.root-2.result c.root-3.result
    c.root.ensures c.in_ok-push_goal.ensures c.root-2.ensures c.in_ok-push_goal-2.ensures c.root-3.ensures third)
    c.push_goal-3.ensures
