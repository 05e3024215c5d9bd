use Rattle.std.proofs.Common.{take, Contains}
use Rattle.mls_solver.specs.Rooms.{Holds}
use Rattle.mls_biunify.proofs.Collected.{Collected}
use Rattle.mls_biunify.proofs.settlement.with_above.Given as goal

abbrev pub invariant-loop-n : goal.invariant-loop-n
invariant-loop-n l = Collected (λ n p. Holds l.relation p n) (Contains l.initial.all) (Contains l.all) (take l.n-index l.negatives)
