use Rattle.std.proofs.Common.{◌∙◌, inl, inr, arith, sym, subst, get_or, All}
use Rattle.std.proofs.lemmas.Bool.{cases_eq}
use Rattle.std.proofs.lemmas.List.{get_or_default}
use Rattle.mls_automaton.specs.declared.automaton.FieldSet.{FieldSet}
use Rattle.mls_shape.specs.steps.Upwards.{StandsBehind}
use Rattle.mls_shape.proofs.upwards.sets_behind.Goals as goal

pub loop-field-preserved : goal.loop-field-preserved
loop-field-preserved c k d low =
    elim (cases_eq k c.loop-field.field-index) [
      | inl same ↦
          subst (λ k. All (StandsBehind c.args.a.now c.args.s) (get_or c.args.fields.now k d).set) (sym same)
          (subst (λ (field : FieldSet). All (StandsBehind c.args.a.now c.args.s) field.set)
          (c.field-item.is ∙ get_or_default c.args.fields.now c.loop-field.field-index c.field-item.result d c.loop-field-test.true)
          (c.are_behind.ensures c.if-not-are_behind.false))
      | inr apart ↦ c.loop-field.invariant k d (omega (arith, apart, low))
    ]

pub returns : goal.returns
returns c it k d low = c.loop-field.invariant k d (omega (arith, low, c.loop-field-test.false))
