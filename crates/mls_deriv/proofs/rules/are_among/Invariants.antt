use Rattle.std.proofs.Common.{ℕ, ◌<◌, get_or}
use Rattle.std.specs.Prelude.{IsTrue}
use Rattle.std.specs.BTreeSet.{contains}
use Rattle.std.specs.Ordering.{nat_cmp}
use Rattle.std.specs.Cmp.Lexicographic.{slice_cmp}
use Rattle.mls_book.specs.declared.book.Field.{Field}
use Rattle.mls_deriv.proofs.rules.are_among.Given as goal

-- the labels of the fields so far are among these
abbrev pub invariant-loop-field : goal.invariant-loop-field
invariant-loop-field l =
    (k : ℕ) (d : Field) → k < l.field-index → IsTrue (contains (slice_cmp nat_cmp) l.labels (get_or l.fields k d).label)
