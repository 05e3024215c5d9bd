use Rattle.std.proofs.Common.{◌≡◌, take}
use Rattle.mls_solver.specs.Rooms.{Holds}
use Rattle.mls_solver.specs.steps.Growth.{BySome, Relates}
use Rattle.mls_solver.proofs.search.add_before.Given as goal

abbrev pub invariant-loop-m : goal.invariant-loop-m
invariant-loop-m l = Relates l.initial.found l.found (BySome (take l.m-index l.m-items) (λ m p n. (n ≡ l.negative.0) × Holds l.initial.found p m))
