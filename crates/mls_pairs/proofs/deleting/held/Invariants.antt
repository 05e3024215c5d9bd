use Rattle.std.proofs.Common.{take}
use Rattle.mls_pairs.specs.steps.Deleting.{IsHeldBy}
use Rattle.mls_pairs.specs.steps.Rounds.{AreThose}
use Rattle.mls_pairs.proofs.deleting.held.Given as goal

-- those so far
abbrev pub invariant-loop-pair : goal.invariant-loop-pair
invariant-loop-pair l = AreThose (IsHeldBy l.table) (take l.pair-index l.pairs) l.left
