use Rattle.mls_solver.specs.Relations.{IsGoal, IsRelated}
use Rattle.mls_solver.specs.Rooms.{Holds}
use Rattle.mls_solver.proofs.SolvedRooms.{solved-same}
use Rattle.mls_infer.proofs.SolvedConstraints.{free_same}
use Rattle.mls_infer.proofs.solve.solved.Goals as goal

pub returns-in_ok-settle-in-Ok-clause-ok : goal.returns-in_ok-settle-in-Ok-clause-ok
returns-in_ok-settle-in-Ok-clause-ok c = record {
  room = c.in_ok-found.found;
  relation = c.in_ok-found.ensures.relation;
  free = free_same c.args.a (Holds c.in_ok-found.found) (IsRelated c.args.a (IsGoal c.args.goals.now)) c.in_ok-found.ensures.relation c.in-Ok.ensures.ok;
  is_solved = solved-same c.args.a (Holds c.in_ok-found.found) (IsRelated c.args.a (IsGoal c.args.goals.now)) c.in_ok-found.ensures.relation c.settle.new.a c.in_ok-settle-in-Ok.ensures.solved;
  closed = c.in_ok-settle-in-Ok.ensures.closed;
}
