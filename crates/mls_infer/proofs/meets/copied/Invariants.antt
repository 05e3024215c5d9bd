use Rattle.std.proofs.Common.{◌≡◌, take}
use Rattle.mls_infer.proofs.meets.copied.Given as goal

abbrev pub invariant-loop-entry : goal.invariant-loop-entry
invariant-loop-entry l = l.entries.items ≡ take l.entry-index l.env
