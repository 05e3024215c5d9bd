use Rattle.mls_solver.specs.steps.Links.{first, second}
use Rattle.mls_solver.proofs.Walks.{IsMarkWalk}
use Rattle.mls_solver.proofs.room.Room.mark_below.Given as goal

abbrev pub invariant-loop-at : goal.invariant-loop-at
invariant-loop-at l = IsMarkWalk first second l.self l.fn.p.0 l.initial.marks l.marks l.at

abbrev pub decreases-loop-at : goal.decreases-loop-at
decreases-loop-at l = l.at
