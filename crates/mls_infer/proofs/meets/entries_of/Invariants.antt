use Rattle.std.proofs.Common.{◌≡◌, take}
use Rattle.mls_infer.proofs.PutTogether.{entries_of}
use Rattle.mls_infer.proofs.meets.entries_of.Given as goal

abbrev pub invariant-loop-entry : goal.invariant-loop-entry
invariant-loop-entry l = l.entries ≡ entries_of l.binder (take l.entry-index l.env)
