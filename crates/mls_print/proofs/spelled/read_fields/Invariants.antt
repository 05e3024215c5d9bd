use Rattle.std.proofs.Common.{take, All}
use Rattle.mls_base.specs.Spelling.{IsName}
use Rattle.mls_automaton.specs.declared.automaton.FieldSet.{FieldSet}
use Rattle.mls_print.proofs.spelled.read_fields.Given as goal

abbrev pub invariant-loop-field : goal.invariant-loop-field
invariant-loop-field l = All (λ (field : FieldSet). IsName field.label) (take l.field-index l.fields)
