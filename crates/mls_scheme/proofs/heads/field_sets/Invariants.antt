use Rattle.std.proofs.Common.{◌≡◌, map, take}
use Rattle.mls_scheme.specs.steps.Heads.{field_set_of}
use Rattle.mls_scheme.proofs.heads.field_sets.Given as goal

-- the fields so far
abbrev pub invariant-loop-field : goal.invariant-loop-field
invariant-loop-field l = l.sets ≡ map field_set_of (take l.field-index l.fields)
