use Rattle.std.proofs.Common.{◌++◌, ◌∷◌, [], List, map, sym, subst, refl}
use Rattle.std.proofs.lemmas.List.{map-append}
use Rattle.mls_print.specs.declared.row.RowField.{RowField}
use Rattle.mls_print.specs.steps.Printing.{LabelledSet}
use Rattle.mls_print.specs.steps.Grouping.{field_in}
use Rattle.mls_print.specs.steps.Registers.{sets_in, NumbersFields}
use Rattle.mls_print.proofs.Registered.{field_more}
use Rattle.mls_print.proofs.register.Register.numbered_fields.Goals as goal

pub loop-field-preserved : goal.loop-field-preserved
loop-field-preserved c = (
  c.in_ok-set.ensures.register,
  let g : RowField = record { label = c.in-Some.field.label; set = c.in_ok-set.set } in
      let all : List LabelledSet = map field_in c.loop-field.yielded in
      let more : NumbersFields (all ++ field_in c.in-Some.field ∷ []) (sets_in c.args.self.now) (sets_in c.number_of.new.self) (c.loop-field.row.items ++ g ∷ []) =
      field_more all (sets_in c.args.self.now) (sets_in c.loop-field.self) (sets_in c.number_of.new.self) c.loop-field.row.items (field_in c.in-Some.field) g c.loop-field.invariant.1 c.in_ok-set.ensures.number refl in
      subst (λ row. NumbersFields (map field_in (c.loop-field.yielded ++ c.in-Some.field ∷ [])) (sets_in c.args.self.now) (sets_in c.number_of.new.self) row) (sym c.in_ok-push.ensures.items)
      (subst (λ fields. NumbersFields fields (sets_in c.args.self.now) (sets_in c.number_of.new.self) (c.loop-field.row.items ++ g ∷ [])) (sym (map-append field_in c.loop-field.yielded (c.in-Some.field ∷ []))) more),
)
