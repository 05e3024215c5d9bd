use Rattle.std.proofs.Common.{◌≡◌, ℕ, take}
use Rattle.std.specs.BTreeMap.{get}
use Rattle.std.specs.Ordering.{nat_cmp}
use Rattle.mls_infer.specs.Finishing.{first_in}
use Rattle.mls_infer.proofs.firsts.firsts_of.Given as goal

abbrev pub invariant-loop-node : goal.invariant-loop-node
invariant-loop-node l = (k : ℕ) → get nat_cmp l.firsts k ≡ first_in (take l.node-index l.nodes) k
