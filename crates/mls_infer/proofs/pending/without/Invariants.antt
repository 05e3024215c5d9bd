use Rattle.std.proofs.Common.{◌≡◌, take}
use Rattle.mls_infer.specs.Constraints.{without}
use Rattle.mls_infer.proofs.pending.without.Given as goal

abbrev pub invariant-loop-entry : goal.invariant-loop-entry
invariant-loop-entry l = l.others ≡ without l.binder (take l.entry-index l.entry-items)
