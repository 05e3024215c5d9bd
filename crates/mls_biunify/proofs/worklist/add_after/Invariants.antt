use Rattle.std.proofs.Common.{ℕ, take, Contains}
use Rattle.mls_solver.specs.Rooms.{Holds}
use Rattle.mls_solver.specs.steps.Consequences.{Follows}
use Rattle.mls_biunify.proofs.worklist.add_after.Given as goal

abbrev pub invariant-loop-q : goal.invariant-loop-q
invariant-loop-q l = record {
  follows : Follows l.table.automaton l.initial.room l.room;
  has : (q m : ℕ) → Contains (take l.q-index l.q-items) q → Holds l.initial.room q m → Holds l.room l.positive.0 m;
}
