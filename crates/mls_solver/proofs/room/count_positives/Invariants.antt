use Rattle.std.proofs.Common.{◌≡◌, take}
use Rattle.std.specs.Prelude.{count_by}
use Rattle.mls_solver.specs.Rooms.{is_positive}
use Rattle.mls_solver.proofs.room.count_positives.Given as goal

abbrev pub invariant-loop-s : goal.invariant-loop-s
invariant-loop-s l = l.count ≡ count_by is_positive (take l.s l.a.states)
