use Rattle.std.proofs.Common.{ℕ, List, Contains, get_or, subst, sym}
use Rattle.mls_solver.specs.declared.goal.Goal.{Goal}
use Rattle.mls_solver.specs.Relations.{IsGoal}
use Rattle.mls_solver.specs.steps.Growth.{BySome}
use Rattle.mls_solver.proofs.Relating.{Relates-more, Relates-all, Relates-same}
use Rattle.mls_solver.proofs.HeadRules.{ByGoal, by_goals-to, by_goals-from}
use Rattle.mls_solver.proofs.saturate.add_goals.Goals as goal

abbrev no_goal : Goal
no_goal = record { positive = record { 0 = 0 }; negative = record { 0 = 0 } }

pub add-requires-clause-row : goal.add-requires-clause-row
add-requires-clause-row c =
    subst (λ (rows : List ℕ). Contains rows (get_or c.args.goals.now c.loop-goal.goal-index no_goal).positive.0) (sym c.loop-goal.invariant.rows)
    (c.requires.rows c.loop-goal.goal-index no_goal c.loop-goal-test.true)

pub add-requires-clause-column : goal.add-requires-clause-column
add-requires-clause-column c =
    subst (λ (columns : List ℕ). Contains columns (get_or c.args.goals.now c.loop-goal.goal-index no_goal).negative.0) (sym c.loop-goal.invariant.columns)
    (c.requires.columns c.loop-goal.goal-index no_goal c.loop-goal-test.true)

pub loop-goal-preserved : goal.loop-goal-preserved
loop-goal-preserved c =
    Relates-more c.args.room.now c.loop-goal.room c.add.new.self c.args.goals.now c.loop-goal.goal-index no_goal ByGoal
    c.loop-goal-test.true c.loop-goal.invariant c.add.ensures

pub returns : goal.returns
returns c =
    Relates-same c.args.room.now c.loop-goal.room (BySome c.args.goals.now ByGoal) (IsGoal c.args.goals.now)
    (Relates-all c.args.room.now c.loop-goal.room c.args.goals.now c.loop-goal.goal-index ByGoal c.loop-goal-test.false c.loop-goal.invariant)
    (by_goals-to c.args.goals.now) (by_goals-from c.args.goals.now)
