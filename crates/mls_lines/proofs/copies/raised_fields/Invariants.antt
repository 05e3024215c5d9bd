use Rattle.std.proofs.Common.{◌≡◌, map, take}
use Rattle.mls_deriv.specs.Steps.{raised_field}
use Rattle.mls_lines.proofs.copies.raised_fields.Given as goal

-- the fields so far
abbrev pub invariant-loop-field : goal.invariant-loop-field
invariant-loop-field l = l.copies ≡ map (raised_field l.up) (take l.field-index l.fields)
