use Rattle.std.proofs.Common.{◌≢◌, take}
use Rattle.std.specs.List.{AllPairs}
use Rattle.std.specs.Ordering.{nat_cmp}
use Rattle.std.specs.Cmp.Lexicographic.{slice_cmp}
use Rattle.mls_infer.specs.Joining.{part_labels}
use Rattle.mls_layout.specs.steps.Posable.{HasJust}
use Rattle.mls_parts.proofs.posable.have_distinct_labels.Given as goal

-- the labels so far differ, and the set has them
abbrev pub invariant-loop-part : goal.invariant-loop-part
invariant-loop-part l = record {
  apart : AllPairs (λ x y. x ≢ y) (take l.part-index (part_labels l.parts));
  just : HasJust (slice_cmp nat_cmp) (take l.part-index (part_labels l.parts)) l.labels;
}
