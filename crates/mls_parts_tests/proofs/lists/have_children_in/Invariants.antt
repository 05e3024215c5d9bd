use Rattle.std.proofs.Common.{take, All}
use Rattle.mls_term.specs.declared.term.Part.{Part}
use Rattle.mls_layout.specs.steps.Posable.{Has}
use Rattle.mls_parts_tests.proofs.lists.have_children_in.Given as goal

abbrev pub invariant-loop-part : goal.invariant-loop-part
invariant-loop-part l = All (λ (part : Part). Has l.done part.child) (take l.part-index l.parts)
