use Rattle.std.proofs.Common.{List, subst}
use Rattle.mls_automaton.specs.declared.automaton.FieldSet.{FieldSet}
use Rattle.mls_automaton.specs.Reached.{InAnyField}
use Rattle.mls_solver.proofs.Relating.{take-all}
use Rattle.mls_biunify.specs.steps.Keeping.{Finds, walk_of}
use Rattle.mls_biunify.proofs.FoundStates.{finds-field}
use Rattle.mls_biunify.proofs.reach.Search.mark_fields.Goals as goal

pub loop-field-preserved : goal.loop-field-preserved
loop-field-preserved g c = finds-field (walk_of g.F.Found.members c.args.self.now) (walk_of g.F.Found.members c.loop-field.self) (walk_of g.F.Found.members c.mark_set.new.self) c.args.fields.now c.loop-field.field-index c.field-item.result c.loop-field-test.true c.field-item.is c.loop-field.invariant c.in_ok-mark_set.ensures

pub returns : goal.returns
returns g c = subst (λ (xs : List FieldSet). Finds (walk_of g.F.Found.members c.args.self.now) (walk_of g.F.Found.members c.loop-field.self) (InAnyField xs)) (take-all c.args.fields.now c.loop-field.field-index c.loop-field-test.false) c.loop-field.invariant
