use Rattle.std.proofs.Common.{take}
use Rattle.mls_solver.specs.Rooms.{Holds}
use Rattle.mls_biunify.specs.steps.Settlement.{AreNewHeads}
use Rattle.mls_biunify.proofs.settlement.new_heads.Given as goal

abbrev pub invariant-loop-s : goal.invariant-loop-s
invariant-loop-s l = AreNewHeads l.table (Holds l.relation) (take l.s-index l.states) l.heads.items
