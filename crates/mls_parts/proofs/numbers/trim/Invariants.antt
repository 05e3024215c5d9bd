use Rattle.std.proofs.Common.{◌≡◌, length}
use Rattle.mls_parts.specs.NumberMaps.{AreRising, held}
use Rattle.mls_parts.proofs.numbers.trim.Given as goal

-- the items are as they were
abbrev pub invariant-loop-entries : goal.invariant-loop-entries
invariant-loop-entries g l = record {
  rising : AreRising l.entries.items;
  same : held l.entries.items ≡ held l.fn.entries.items;
}

abbrev pub decreases-loop-entries : goal.decreases-loop-entries
decreases-loop-entries g l = length l.entries.items
