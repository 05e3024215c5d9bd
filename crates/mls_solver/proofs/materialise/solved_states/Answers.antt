use Rattle.std.proofs.Common.{◌∙◌}
use Rattle.mls_solver.specs.Rooms.{Holds}
use Rattle.mls_solver.proofs.SolvedStates.{states-next}
use Rattle.mls_solver.proofs.materialise.solved_states.Goals as goal

pub add_state-requires-clause-limit : goal.add_state-requires-clause-limit
add_state-requires-clause-limit c = c.loop-s.invariant.limit ∙ c.requires.limit

pub loop-s-preserved : goal.loop-s-preserved
loop-s-preserved c = record {
  states = states-next c.args.a.now (Holds c.args.room.now) c.loop-s.s c.loop-s.solved c.loop-s.invariant.states c.add_state.new.solved c.in_ok-add_state.ensures.state;
  limit = c.in_ok-add_state.ensures.limit ∙ c.loop-s.invariant.limit;
}
