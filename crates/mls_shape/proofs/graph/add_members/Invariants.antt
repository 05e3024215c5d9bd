use Rattle.std.proofs.Common.{◌≡◌, ◌++◌, map, take}
use Rattle.mls_automaton.specs.declared.automaton.FieldSet.{FieldSet}
use Rattle.mls_shape.specs.steps.Classes.{one_of}
use Rattle.mls_shape.proofs.graph.add_members.Given as goal

abbrev pub invariant-loop-field : goal.invariant-loop-field
invariant-loop-field l = l.found.items ≡ l.fn.found.items ++ map (λ (f : FieldSet). one_of f.set) (take l.field-index l.fields)
