use Rattle.std.proofs.Common.{◌+◌, ◌-◌, length}
use Rattle.mls_scheme.proofs.CombinedAll.{AreHalf}
use Rattle.mls_scheme.proofs.heads.combine_pairs.Given as goal

-- the heads so far
abbrev pub invariant-loop-i : goal.invariant-loop-i
invariant-loop-i l = AreHalf l.p l.heads l.i l.half.items

abbrev pub decreases-loop-i : goal.decreases-loop-i
decreases-loop-i l = (length l.heads + 1) - l.i
