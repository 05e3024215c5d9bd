use Rattle.std.proofs.Common.{map}
use Rattle.mls_print.specs.steps.Grouping.{field_in}
use Rattle.mls_print.specs.steps.Registers.{IsRegister, sets_in, NumbersFields}
use Rattle.mls_print.proofs.register.Register.numbered_fields.Given as goal

abbrev pub invariant-loop-field : goal.invariant-loop-field
invariant-loop-field l = IsRegister l.self × NumbersFields (map field_in l.yielded) (sets_in l.initial.self) (sets_in l.self) l.row.items
