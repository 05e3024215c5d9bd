use Rattle.std.proofs.Common.{◌≤◌}
use Rattle.mls_emit.proofs.derive.prune.Numbers.of.Given as goal

-- no more nodes are counted than there are
abbrev pub invariant-loop-is_kept : goal.invariant-loop-is_kept
invariant-loop-is_kept l = l.count ≤ l.is_kept-index
