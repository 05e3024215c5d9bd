use Rattle.std.proofs.Common.{rules, ◌≡◌, ◌+◌, ◌++◌, ◌∷◌, [], List, take, get_or, sym, ap, ◌∙◌, subst}
use Rattle.std.proofs.lemmas.List.{take_more}
use Rattle.mls_automaton.specs.declared.automaton.FieldSet.{FieldSet}
use Rattle.mls_shape.specs.steps.Registers.{sets_in}
use Rattle.mls_shape.specs.steps.NumberedHeads.{NumbersFields}
use Rattle.mls_shape.proofs.NumberedHeads.{field_more}
use Rattle.mls_shape.proofs.heads.numbered_fields.Goals as goal

pub loop-field-preserved : goal.loop-field-preserved
loop-field-preserved c = (
  c.in_ok-set.ensures.register,
  let list : List FieldSet = c.as_slice-field-items.result.now in
      let f : FieldSet = c.field-item.result in
      let g : FieldSet = record { label = c.in_ok-label.label; set = c.in_ok-set.set } in
      let item : get_or list c.loop-field.field-index f ≡ f = search rules in
      subst (λ row. NumbersFields c.args.polarity (take (c.loop-field.field-index + 1) list) (sets_in c.args.register.now) (sets_in c.numbered_set.new.register) row) (sym c.in_ok-push.ensures.ok)
      (subst (λ fields. NumbersFields c.args.polarity fields (sets_in c.args.register.now) (sets_in c.numbered_set.new.register) (c.loop-field.numbered ++ g ∷ []))
      (sym (take_more list c.loop-field.field-index f c.loop-field-test.true ∙ ap (λ x. take c.loop-field.field-index list ++ x ∷ []) item))
      (field_more c.args.polarity (take c.loop-field.field-index list) c.loop-field.numbered f g (sets_in c.args.register.now) (sets_in c.loop-field.register) (sets_in c.numbered_set.new.register)
      c.loop-field.invariant.1 (sym c.in_ok-label.ensures) c.in_ok-set.ensures.set)),
)
