use Rattle.std.proofs.Common.{take}
use Rattle.mls_layout.proofs.Distinct.{AreNumbersOf}
use Rattle.mls_layout.proofs.layout.distinct.numbers_of.Given as goal

-- those so far
abbrev pub invariant-loop-id : goal.invariant-loop-id
invariant-loop-id l = AreNumbersOf (take l.id-index l.id-items) l.numbers.keys
