use Rattle.std.proofs.Common.{take, All}
use Rattle.mls_automaton.specs.declared.automaton.FieldSet.{FieldSet}
use Rattle.mls_layout.specs.steps.Posable.{IsFree}
use Rattle.mls_parts.proofs.posable.are_free_sets.Given as goal

abbrev pub invariant-loop-field : goal.invariant-loop-field
invariant-loop-field l = All (λ (field : FieldSet). All (IsFree l.states) field.set) (take l.field-index l.fields)
