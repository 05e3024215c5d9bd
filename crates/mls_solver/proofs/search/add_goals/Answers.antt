use Rattle.mls_solver.specs.declared.goal.Goal.{Goal}
use Rattle.mls_solver.specs.Relations.{IsGoal}
use Rattle.mls_solver.specs.steps.Growth.{BySome}
use Rattle.mls_solver.proofs.Relating.{Relates-more, Relates-all, Relates-same}
use Rattle.mls_solver.proofs.HeadRules.{ByGoal, by_goals-to, by_goals-from}
use Rattle.mls_solver.proofs.search.add_goals.Goals as goal

abbrev no_goal : Goal
no_goal = record { positive = record { 0 = 0 }; negative = record { 0 = 0 } }

pub loop-goal-preserved : goal.loop-goal-preserved
loop-goal-preserved c =
    Relates-more c.args.found.now c.loop-goal.found c.add.new.self c.args.goals.now c.loop-goal.goal-index no_goal ByGoal
    c.loop-goal-test.true c.loop-goal.invariant c.in_ok-add.ensures.pair

pub returns : goal.returns
returns c =
    Relates-same c.args.found.now c.loop-goal.found (BySome c.args.goals.now ByGoal) (IsGoal c.args.goals.now)
    (Relates-all c.args.found.now c.loop-goal.found c.args.goals.now c.loop-goal.goal-index ByGoal c.loop-goal-test.false c.loop-goal.invariant)
    (by_goals-to c.args.goals.now) (by_goals-from c.args.goals.now)
