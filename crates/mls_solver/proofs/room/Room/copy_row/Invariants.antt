use Rattle.std.proofs.Common.{◌≡◌}
use Rattle.mls_solver.specs.steps.Links.{first}
use Rattle.mls_solver.proofs.Walks.{IsWalked}
use Rattle.mls_solver.proofs.room.Room.copy_row.Given as goal

abbrev pub invariant-loop-at : goal.invariant-loop-at
invariant-loop-at l = IsWalked first (λ x p n. (p ≡ l.to) × (n ≡ x.1)) l.initial.self l.self l.from l.at

abbrev pub decreases-loop-at : goal.decreases-loop-at
decreases-loop-at l = l.at
