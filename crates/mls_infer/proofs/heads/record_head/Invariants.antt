use Rattle.std.proofs.Common.{◌≡◌, ◌++◌, map}
use Rattle.mls_infer.specs.Joining.{row_field}
use Rattle.mls_infer.proofs.heads.record_head.Given as goal

abbrev pub invariant-loop-label : goal.invariant-loop-label
invariant-loop-label l = l.fields ++ map row_field l.label-iterator ≡ map row_field l.rows.entries
