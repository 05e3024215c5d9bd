use Rattle.std.proofs.Common.{◌≡◌, map, take}
use Rattle.mls_shape.specs.steps.Classes.{class_in}
use Rattle.mls_shape.specs.steps.Classed.{classed_field}
use Rattle.mls_shape.proofs.classed.class_fields.Given as goal

-- the fields so far
abbrev pub invariant-loop-field : goal.invariant-loop-field
invariant-loop-field l = l.classed ≡ map (classed_field (class_in l.classes)) (take l.field-index l.fields)
