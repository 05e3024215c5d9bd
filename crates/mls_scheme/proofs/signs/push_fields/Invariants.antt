use Rattle.std.proofs.Common.{◌≡◌, ◌++◌, take}
use Rattle.mls_scheme.specs.steps.Signs.{field_tasks}
use Rattle.mls_scheme.proofs.signs.push_fields.Given as goal

-- the fields so far
abbrev pub invariant-loop-field : goal.invariant-loop-field
invariant-loop-field l = l.work.items ≡ l.fn.work.items ++ field_tasks l.sign (take l.field-index l.fields)
