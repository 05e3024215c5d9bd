use Rattle.std.proofs.Common.{take}
use Rattle.mls_layout.specs.Walks.{IsOfFields}
use Rattle.mls_layout.specs.steps.Walking.{Lists}
use Rattle.mls_layout.proofs.walk.push_fields.Given as goal

-- the fields so far
abbrev pub invariant-loop-field : goal.invariant-loop-field
invariant-loop-field l = Lists (IsOfFields l.general (take l.field-index l.special)) l.initial.into l.into
