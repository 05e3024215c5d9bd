use Rattle.std.proofs.Common.{◌≡◌, ◌++◌}
use Rattle.mls_biunify.proofs.frozen.listed.Given as goal

abbrev pub invariant-loop-number : goal.invariant-loop-number
invariant-loop-number l = l.set.keys ≡ l.list.items ++ l.number-iterator
