use Rattle.mls_automaton.specs.Models.{IsClosed}
use Rattle.mls_solver.specs.Rooms.{Holds}
use Rattle.mls_solver.specs.Solved.{IsSolved}
use Rattle.mls_solver.proofs.SolvedStates.{is-solved, labels-rise}
use Rattle.mls_solver.proofs.SolvedClosed.{closed_solved}
use Rattle.mls_solver.proofs.SolvedRooms.{instances-under}
use Rattle.mls_solver.proofs.materialise.materialise.Goals as goal

pub returns-clause-solved : goal.returns-clause-solved
returns-clause-solved c = is-solved c.args.a.now (Holds c.args.room.now) c.requires.closed c.in_ok-solved.solved c.add_flows.new.solved c.in_ok-solved.ensures.states c.in_ok-add_flows.ensures

pub returns-clause-closed : goal.returns-clause-closed
returns-clause-closed c =
    let is : IsSolved c.args.a.now (Holds c.args.room.now) c.add_flows.new.solved = is-solved c.args.a.now (Holds c.args.room.now) c.requires.closed c.in_ok-solved.solved c.add_flows.new.solved c.in_ok-solved.ensures.states c.in_ok-add_flows.ensures in
    closed_solved c.args.a.now (Holds c.args.room.now) c.requires.closed c.requires.states c.add_flows.new.solved is
    (labels-rise c.args.a.now (Holds c.args.room.now) c.requires.closed c.in_ok-solved.solved c.add_flows.new.solved c.in_ok-solved.ensures.states c.in_ok-add_flows.ensures)

pub returns-clause-instances : goal.returns-clause-instances
returns-clause-instances c goals it =
    let is : IsSolved c.args.a.now (Holds c.args.room.now) c.add_flows.new.solved = is-solved c.args.a.now (Holds c.args.room.now) c.requires.closed c.in_ok-solved.solved c.add_flows.new.solved c.in_ok-solved.ensures.states c.in_ok-add_flows.ensures in
    let closed : IsClosed c.add_flows.new.solved =
    closed_solved c.args.a.now (Holds c.args.room.now) c.requires.closed c.requires.states c.add_flows.new.solved is
    (labels-rise c.args.a.now (Holds c.args.room.now) c.requires.closed c.in_ok-solved.solved c.add_flows.new.solved c.in_ok-solved.ensures.states c.in_ok-add_flows.ensures) in
    instances-under c.args.a.now c.requires.closed c.args.room.now c.add_flows.new.solved is closed goals it
