use Rattle.std.proofs.Common.{take, All}
use Rattle.mls_layout.specs.steps.Posable.{IsFree}
use Rattle.mls_parts.proofs.posable.is_free_set.Given as goal

abbrev pub invariant-loop-s : goal.invariant-loop-s
invariant-loop-s l = All (IsFree l.states) (take l.s-index l.s-items)
