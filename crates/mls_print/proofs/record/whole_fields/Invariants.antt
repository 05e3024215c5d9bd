use Rattle.std.proofs.Common.{◌≡◌, map, take}
use Rattle.mls_print.specs.steps.Grouping.{fields_in, whole_field}
use Rattle.mls_print.proofs.record.whole_fields.Given as goal

-- the fields so far
abbrev pub invariant-loop-field : goal.invariant-loop-field
invariant-loop-field l = fields_in l.joined ≡ map whole_field (take l.field-index l.fields)
