use Rattle.std.proofs.Common.{◌≡◌, ◌++◌, take}
use Rattle.std.specs.List.{flat_map}
use Rattle.mls_shape.specs.steps.Classes.{class_in, field_code}
use Rattle.mls_shape.proofs.classes.add_fields.Given as goal

-- the fields so far
abbrev pub invariant-loop-field : goal.invariant-loop-field
invariant-loop-field l = l.key.items ≡ l.initial.key.items ++ flat_map (field_code (class_in l.classes)) (take l.field-index l.fields)
