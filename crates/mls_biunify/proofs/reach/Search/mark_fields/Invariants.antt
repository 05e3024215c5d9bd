use Rattle.std.proofs.Common.{take}
use Rattle.mls_automaton.specs.Reached.{InAnyField}
use Rattle.mls_biunify.specs.steps.Keeping.{Finds, walk_of}
use Rattle.mls_biunify.proofs.reach.Search.mark_fields.Given as goal

-- those of the fields so far
abbrev pub invariant-loop-field : goal.invariant-loop-field
invariant-loop-field g l = Finds (walk_of g.F.Found.members l.fn.self) (walk_of g.F.Found.members l.self) (InAnyField (take l.field-index l.fields))
