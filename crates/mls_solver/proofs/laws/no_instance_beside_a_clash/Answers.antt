use Rattle.mls_automaton.proofs.Instances.{under-instance}
use Rattle.mls_solver.specs.Relations.{IsGoal}
use Rattle.mls_solver.specs.Solutions.{scheme_over}
use Rattle.mls_solver.proofs.Following.{goals_between}
use Rattle.mls_solver.proofs.SolvedInstances.{no_instance}
use Rattle.mls_solver.proofs.laws.no_instance_beside_a_clash.Goals as goal

pub returns : goal.returns
returns c a goals are clash is_clash root env scheme b is t it =
    no_instance (scheme_over a root env) (IsGoal goals) scheme (goals_between a goals are) clash is_clash t
    (under-instance (scheme_over a root env) scheme (IsGoal goals) (goals_between a goals are) b is t it)
