use Rattle.std.proofs.Common.{length, ◌-◌}
use Rattle.mls_infer.specs.Pending.{part_in, states_in}
use Rattle.mls_infer.proofs.MergeLoops.{IsMergedTo}
use Rattle.mls_infer.proofs.meets.merged.Given as goal

abbrev pub invariant-loop-i : goal.invariant-loop-i
invariant-loop-i l = IsMergedTo l.fn.live (part_in l.fn.part) l.entries l.i l.live (states_in l.region) l.env

abbrev pub decreases-loop-i : goal.decreases-loop-i
decreases-loop-i l = length l.entries - l.i
