use Rattle.std.proofs.Common.{◌≡◌, take}
use Rattle.mls_solver.specs.Rooms.{Holds}
use Rattle.mls_solver.specs.steps.Growth.{BySome, Relates}
use Rattle.mls_solver.proofs.search.add_after.Given as goal

abbrev pub invariant-loop-q : goal.invariant-loop-q
invariant-loop-q l = Relates l.initial.found l.found (BySome (take l.q-index l.q-items) (λ q p n. (p ≡ l.positive.0) × Holds l.direct q n))
