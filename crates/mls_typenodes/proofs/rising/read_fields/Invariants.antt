use Rattle.std.proofs.Common.{take, All}
use Rattle.mls_automaton.specs.Sets.{Rises}
use Rattle.mls_automaton.specs.declared.automaton.FieldSet.{FieldSet}
use Rattle.mls_typenodes.proofs.rising.read_fields.Given as goal

abbrev pub invariant-loop-field : goal.invariant-loop-field
invariant-loop-field l = All (λ (field : FieldSet). Rises field.set) (take l.field-index l.fields)
