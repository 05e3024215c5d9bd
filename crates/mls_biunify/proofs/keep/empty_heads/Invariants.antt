use Rattle.std.proofs.Common.{take}
use Rattle.mls_biunify.specs.steps.Keeping.{EmptiesHeads}
use Rattle.mls_biunify.proofs.keep.empty_heads.Given as goal

abbrev pub invariant-loop-s : goal.invariant-loop-s
invariant-loop-s l = EmptiesHeads l.initial.table (take l.s-index l.states) l.table
