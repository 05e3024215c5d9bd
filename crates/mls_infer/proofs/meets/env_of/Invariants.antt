use Rattle.std.proofs.Common.{◌≡◌, take}
use Rattle.mls_infer.proofs.meets.env_of.Given as goal

abbrev pub invariant-loop-entry : goal.invariant-loop-entry
invariant-loop-entry l = l.env ≡ take l.entry-index l.entries
