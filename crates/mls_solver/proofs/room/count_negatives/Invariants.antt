use Rattle.std.proofs.Common.{◌≡◌, take}
use Rattle.std.specs.Prelude.{count_by}
use Rattle.mls_solver.specs.Rooms.{is_negative}
use Rattle.mls_solver.proofs.room.count_negatives.Given as goal

abbrev pub invariant-loop-s : goal.invariant-loop-s
invariant-loop-s l = l.count ≡ count_by is_negative (take l.s l.a.states)
