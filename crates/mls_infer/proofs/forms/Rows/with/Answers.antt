use Rattle.std.proofs.Common.{List, ℕ, Some, subst}
use Rattle.std.specs.BTreeMap.{Updates}
use Rattle.std.specs.Ordering.{nat_cmp}
use Rattle.std.specs.Cmp.Lexicographic.{slice_cmp}
use Rattle.mls_infer.specs.Pending.{part_in}
use Rattle.mls_infer.proofs.RecordParts.{rows_with}
use Rattle.mls_infer.proofs.forms.Rows.with.Goals as goal

pub returns : goal.returns
returns c = λ labels parts are distinct.
    rows_with labels parts c.args.self (record { roots = c.insert.new.self; region = c.in_ok-with.field-0; env = c.in_ok-joined.field-0 }) c.args.label.now (part_in c.args.body) are distinct
    (subst (λ (label : List ℕ). Updates (slice_cmp nat_cmp) c.args.self.roots c.insert.new.self label (Some c.args.body.root)) c.in_ok-copied_label.ensures c.in_ok-insert.ensures.updates)
    c.in_ok-with.ensures c.in_ok-joined.ensures
