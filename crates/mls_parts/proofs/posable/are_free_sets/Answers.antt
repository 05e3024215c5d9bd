use Rattle.std.proofs.Common.{IsTrue, rules, All, subst}
use Rattle.std.proofs.lemmas.List.{take_all}
use Rattle.std.proofs.lemmas.List.Elements.{All-more}
use Rattle.mls_automaton.specs.declared.automaton.FieldSet.{FieldSet}
use Rattle.mls_layout.specs.steps.Posable.{IsFree}
use Rattle.mls_parts.proofs.posable.are_free_sets.Goals as goal

pub loop-field-preserved : goal.loop-field-preserved
loop-field-preserved c =
    let free : IsTrue c.is_free_set.result = search rules in
    All-more (λ (field : FieldSet). All (IsFree c.args.states.now) field.set) c.args.fields.now c.loop-field.field-index c.field-item.result c.loop-field-test.true c.loop-field.invariant
    (subst (λ (field : FieldSet). All (IsFree c.args.states.now) field.set) c.field-item.is (c.is_free_set.ensures free))

pub returns : goal.returns
returns c = λ yes. subst (All (λ (field : FieldSet). All (IsFree c.args.states.now) field.set)) (take_all c.loop-field.field-index c.args.fields.now c.loop-field-test.false) c.loop-field.invariant
