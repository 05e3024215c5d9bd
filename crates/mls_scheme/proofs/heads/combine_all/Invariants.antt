use Rattle.std.proofs.Common.{length, All}
use Rattle.mls_automaton.specs.Heads.{IsSameParts}
use Rattle.mls_scheme.proofs.CombinedAll.{all_parts, HasLabels}
use Rattle.mls_scheme.proofs.heads.combine_all.Given as goal

-- the heads that are left combine to the same
abbrev pub invariant-loop-alloc : goal.invariant-loop-alloc
invariant-loop-alloc l = IsSameParts (all_parts l.p l.left.items) (all_parts l.p l.fn.heads.items) × All HasLabels l.left.items

abbrev pub decreases-loop-alloc : goal.decreases-loop-alloc
decreases-loop-alloc l = length l.left.items
