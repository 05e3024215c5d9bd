use Rattle.std.proofs.Common.{subst, List}
use Rattle.mls_automaton.specs.declared.automaton.FieldSet.{FieldSet}
use Rattle.mls_automaton.specs.Reached.{InAnyField}
use Rattle.mls_biunify.specs.steps.Keeping.{found_of, walk_of}
use Rattle.mls_automaton.proofs.Searches.{record-none, record-some}
use Rattle.mls_biunify.proofs.reach.Search.mark_record.Goals as goal

pub returns-in-None : goal.returns-in-None
returns-in-None g c = λ limit below. record-none (found_of limit (walk_of g.F.Found.members c.args.self.now)) c.args.fields.now c.in-None.is

pub returns-in_ok-mark_fields-in-Some : goal.returns-in_ok-mark_fields-in-Some
returns-in_ok-mark_fields-in-Some g c = λ limit below.
    record-some (found_of limit (walk_of g.F.Found.members c.args.self.now)) (found_of limit (walk_of g.F.Found.members c.mark_fields.new.self)) c.args.fields.now _ c.as_slice.result.now c.in-Some.is c.as_slice.ensures
    (c.in_ok-mark_fields-in-Some.ensures limit (λ j it. below j (_, c.in-Some.is, subst (λ (xs : List FieldSet). InAnyField xs j) c.as_slice.ensures it)))
