use Rattle.std.proofs.Common.{take}
use Rattle.std.specs.BTreeSet.{contains}
use Rattle.std.specs.Ordering.{nat_cmp}
use Rattle.std.specs.Cmp.Lexicographic.{slice_cmp}
use Rattle.mls_deriv.specs.inner.Rules.{AreLabelsOf}
use Rattle.mls_deriv.proofs.rules.labels_of.Given as goal

-- the set has the labels of the parts so far
abbrev pub invariant-loop-part : goal.invariant-loop-part
invariant-loop-part l = AreLabelsOf (take l.part-index l.parts) (contains (slice_cmp nat_cmp) l.labels)
