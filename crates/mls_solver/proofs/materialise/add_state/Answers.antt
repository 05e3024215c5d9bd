use Rattle.mls_solver.specs.Rooms.{Holds}
use Rattle.mls_solver.proofs.SolvedStates.{added_state}
use Rattle.mls_solver.proofs.materialise.add_state.Goals as goal

pub returns-clause-state : goal.returns-clause-state
returns-clause-state c =
    added_state c.args.a.now (Holds c.args.room.now) c.args.s.0 c.polarity-polarity.result c.polarity-polarity.ensures c.in_ok-members.members.items c.in_ok-members.ensures.members
    c.as_slice.result.now c.as_slice.ensures.value c.in_ok-head.head c.in_ok-head.ensures.parts c.in_ok-head.ensures.labels c.args.solved.now c.state.new.self c.in_ok-state.ensures.ok
