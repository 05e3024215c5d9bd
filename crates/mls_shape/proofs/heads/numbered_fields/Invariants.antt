use Rattle.mls_shape.specs.steps.Registers.{IsRegister, sets_in}
use Rattle.mls_shape.specs.steps.NumberedHeads.{NumbersFields}
use Rattle.std.proofs.Common.{take}
use Rattle.mls_shape.proofs.heads.numbered_fields.Given as goal

abbrev pub invariant-loop-field : goal.invariant-loop-field
invariant-loop-field l = IsRegister l.register × NumbersFields l.polarity (take l.field-index l.field-items) (sets_in l.initial.register) (sets_in l.register) l.numbered
