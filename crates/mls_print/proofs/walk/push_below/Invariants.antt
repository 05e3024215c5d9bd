use Rattle.std.proofs.Common.{◌≡◌, ◌++◌, length, reverse}
use Rattle.mls_print.proofs.walk.push_below.Given as goal

abbrev pub invariant-loop-s : goal.invariant-loop-s
invariant-loop-s l = l.stack.items ++ reverse l.below.items ≡ l.initial.stack.items ++ reverse l.initial.below.items

abbrev pub decreases-loop-s : goal.decreases-loop-s
decreases-loop-s l = length l.below.items
