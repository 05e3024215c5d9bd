use Rattle.std.proofs.Common.{◌≡◌, ◌∙◌, ◌+◌, ◌++◌, ◌<◌, ◌≤◌, ◌∷◌, [], ℕ, List, take, get_or, length, refl, sym, ap, subst, arith, Some}
use Rattle.std.proofs.lemmas.List.{get_or_default, take_all, take_more}
use Rattle.mls_book.specs.declared.book.NodeId.{NodeId}
use Rattle.mls_book.specs.Books.{field_at}
use Rattle.mls_book.proofs.Children.{at_found}
use Rattle.mls_layout.specs.declared.layout.LaidOut.{LaidOut}
use Rattle.mls_term.specs.declared.term.Part.{Part}
use Rattle.mls_deriv.specs.declared.derivation.BinderNode.{BinderNode}
use Rattle.mls_lines.specs.PlainRecords.{BringsParts}
use Rattle.mls_lines.specs.Writer.{HasLowEnv}
use Rattle.mls_lines.proofs.PlainRecords.{brings_next, brings_none, field_of_part}
use Rattle.mls_lines.proofs.writer.Writer.parts.Goals as goal

pub loop-number-init : goal.loop-number-init
loop-number-init c = record {
  laid = refl;
  brings = λ fields are sound rising low all. brings_none c.args.self.now c.args.env.now fields c.new-steps.result c.new-steps.ensures sound;
}

pub loop-number-preserved : goal.loop-number-preserved
loop-number-preserved c = record {
  laid = c.in_ok-adapted.ensures.laid ∙ c.loop-number.invariant.laid;
  brings = λ fields are sound rising env_low all.
      let w = c.args.self.now in
      let now = c.loop-number.self in
      let new = c.adapted.new.self in
      let part : Part = c.index-parts-number.result in
      let u : NodeId = get_or c.args.fields.now c.loop-number.number (record { 0 = 0 }) in
      let d : List BinderNode = c.args.env.now in
      let before = c.loop-number.invariant.brings fields are sound rising env_low all in
      let long : length c.args.parts.now ≤ length c.args.fields.now = c.requires in
      let low : c.loop-number.number < length c.args.parts.now = c.loop-number-test.true in
      let inside : c.loop-number.number < length c.args.fields.now = omega (arith, long, low) in
      let node_is : u ≡ get_or c.args.fields.now c.loop-number.number u = get_or_default c.args.fields.now c.loop-number.number (record { 0 = 0 }) u inside in
      let at : field_at part.label fields ≡ Some u =
      subst (λ (one : Part). field_at one.label fields ≡ Some u) (sym c.index-parts-number.is) (field_of_part fields c.args.parts.now c.args.fields.now c.loop-number.number part u are c.loop-number-test.true inside ∙ ap (λ (n : NodeId). Some n) (sym node_is)) in
      let laid_is : now.laid ≡ w.laid = c.loop-number.invariant.laid in
      let it = c.in_ok-adapted.ensures.brings rising before.adds.sound (subst (λ (l : LaidOut). HasLowEnv (length l.book) d) (sym laid_is) env_low)
      (subst (λ (l : LaidOut). u.0 < length l.book) (sym laid_is) (at_found (λ k. k < length w.laid.book) part.label fields all u at)) in
      subst (λ (numbers : List ℕ). BringsParts w new d fields (take (c.loop-number.number + 1) c.args.parts.now) numbers) (sym c.in_ok-push.ensures.ok)
      (subst (λ (parts : List Part). BringsParts w new d fields parts (c.loop-number.steps ++ c.in_ok-adapted.field-0 ∷ []))
      (ap (λ (one : Part). take c.loop-number.number c.args.parts.now ++ one ∷ []) c.index-parts-number.is ∙ sym (take_more c.args.parts.now c.loop-number.number part c.loop-number-test.true))
      (brings_next w d fields now new (take c.loop-number.number c.args.parts.now) c.loop-number.steps part u c.in_ok-adapted.field-0 before at it));
}

pub returns-clause-brings : goal.returns-clause-brings
returns-clause-brings c = λ fields are sound rising low all.
    subst (λ (parts : List Part). BringsParts c.args.self.now c.loop-number.self c.args.env.now fields parts c.loop-number.steps)
    (take_all c.loop-number.number c.args.parts.now c.loop-number-test.false) (c.loop-number.invariant.brings fields are sound rising low all)
