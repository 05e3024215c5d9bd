use Rattle.std.proofs.Common.{◌-◌, ◌^◌}
use Rattle.mls_pairs.specs.steps.Reasons.{IsChoosing}
use Rattle.mls_pairs.proofs.chosen.chosen_of.Given as goal

-- the first pairs have their reasons
abbrev pub invariant-loop-next : goal.invariant-loop-next
invariant-loop-next l = IsChoosing l.book l.table l.wanted l.next l.chosen

abbrev pub decreases-loop-next : goal.decreases-loop-next
decreases-loop-next l = 2 ^ 64 - l.next
