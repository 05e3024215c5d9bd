use Rattle.std.proofs.Common.{◌≡◌, take}
use Rattle.mls_solver.specs.declared.goal.Goal.{Goal}
use Rattle.mls_solver.specs.steps.Growth.{BySome, Relates}
use Rattle.mls_solver.proofs.search.add_goals.Given as goal

abbrev pub invariant-loop-goal : goal.invariant-loop-goal
invariant-loop-goal l = Relates l.initial.found l.found (BySome (take l.goal-index l.goals) (λ (g : Goal) p n. (p ≡ g.positive.0) × (n ≡ g.negative.0)))
