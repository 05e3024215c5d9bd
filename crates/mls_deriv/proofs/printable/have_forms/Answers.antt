use Rattle.std.proofs.Common.{rules, ◌≡◌, All, true, false, refl, subst}
use Rattle.std.proofs.lemmas.List.{take_all}
use Rattle.std.proofs.lemmas.List.Elements.{All-get_or, All-more}
use Rattle.mls_deriv.specs.Texts.{IsSectionForm}
use Rattle.mls_deriv.proofs.printable.have_forms.Goals as goal

pub returns-then-not-branch : goal.returns-then-not-branch
returns-then-not-branch c = (
  λ no. absurd (cc),
  λ all.
      let form : IsSectionForm c.section-item.result = subst IsSectionForm (search rules) (All-get_or IsSectionForm c.args.sections.now c.loop-section.section-index c.section-item.result (search rules) all) in
      let yes' : c.in_ok-has_form.field-0 ≡ true = c.in_ok-has_form.ensures.1 form in
      let no' : c.in_ok-has_form.field-0 ≡ false = c.if-not-branch.true in
      absurd (cc),
)

pub loop-section-preserved : goal.loop-section-preserved
loop-section-preserved c =
    All-more IsSectionForm c.args.sections.now c.loop-section.section-index c.section-item.result (search rules) c.loop-section.invariant
    (subst IsSectionForm (search rules) (c.in_ok-has_form.ensures.0 c.if-not-branch.false))

pub returns : goal.returns
returns c = (λ yes. subst (All IsSectionForm) (take_all c.loop-section.section-index c.args.sections.now (search rules)) c.loop-section.invariant, λ all. refl)
