use Rattle.std.proofs.Common.{◌≡◌}
use Rattle.mls_solver.specs.steps.Links.{second}
use Rattle.mls_solver.proofs.Walks.{IsWalked}
use Rattle.mls_solver.proofs.room.Room.copy_column.Given as goal

abbrev pub invariant-loop-at : goal.invariant-loop-at
invariant-loop-at l = IsWalked second (λ x p n. (p ≡ x.0) × (n ≡ l.to)) l.initial.self l.self l.from l.at

abbrev pub decreases-loop-at : goal.decreases-loop-at
decreases-loop-at l = l.at
