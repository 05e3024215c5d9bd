use Rattle.std.proofs.Common.{take, Contains}
use Rattle.mls_solver.specs.Rooms.{Holds}
use Rattle.mls_biunify.proofs.Collected.{Collected}
use Rattle.mls_biunify.proofs.settlement.with_below.Given as goal

abbrev pub invariant-loop-p : goal.invariant-loop-p
invariant-loop-p l = Collected (λ p n. Holds l.relation p n) (Contains l.initial.all) (Contains l.all) (take l.p-index l.positives)
