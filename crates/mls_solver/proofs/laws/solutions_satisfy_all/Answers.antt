use Rattle.mls_solver.specs.Relations.{IsGoal}
use Rattle.mls_solver.proofs.Following.{goals_between, related-below}
use Rattle.mls_solver.proofs.laws.solutions_satisfy_all.Goals as goal

pub returns : goal.returns
returns c a goals closed are value model hold p n it = related-below a value model (IsGoal goals) closed (goals_between a goals are) hold p n it
