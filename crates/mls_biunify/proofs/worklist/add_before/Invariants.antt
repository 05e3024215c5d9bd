use Rattle.std.proofs.Common.{ℕ, take, Contains}
use Rattle.mls_solver.specs.Rooms.{Holds}
use Rattle.mls_solver.specs.steps.Consequences.{Follows}
use Rattle.mls_biunify.proofs.worklist.add_before.Given as goal

abbrev pub invariant-loop-m : goal.invariant-loop-m
invariant-loop-m l = record {
  follows : Follows l.table.automaton l.initial.room l.room;
  has : (q m : ℕ) → Holds l.initial.room q m → Contains (take l.m-index l.m-items) m → Holds l.room q l.negative.0;
}
