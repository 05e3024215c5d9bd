use Rattle.std.proofs.Common.{◌≡◌, ◌++◌, take}
use Rattle.mls_infer.proofs.pending.with_all.Given as goal

abbrev pub invariant-loop-entry : goal.invariant-loop-entry
invariant-loop-entry l = l.all ≡ l.fn.env ++ take l.entry-index l.more
