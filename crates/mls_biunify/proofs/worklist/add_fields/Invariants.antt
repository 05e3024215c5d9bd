use Rattle.std.proofs.Common.{take}
use Rattle.mls_solver.specs.steps.Growth.{BySome, Relates}
use Rattle.mls_solver.specs.steps.Consequences.{ByField}
use Rattle.mls_biunify.proofs.worklist.add_fields.Given as goal

abbrev pub invariant-loop-other : goal.invariant-loop-other
invariant-loop-other l = Relates l.initial.room l.room (BySome (take l.other-index l.others) (ByField l.fields))
