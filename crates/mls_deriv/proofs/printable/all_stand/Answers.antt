use Rattle.std.proofs.Common.{rules, ◌≡◌, All, get_or, refl, subst}
use Rattle.std.proofs.lemmas.List.{take_all}
use Rattle.std.proofs.lemmas.List.Elements.{All-more}
use Rattle.mls_deriv.specs.Texts.{LinesStand}
use Rattle.mls_deriv.proofs.printable.all_stand.Goals as goal

pub loop-section-preserved : goal.loop-section-preserved
loop-section-preserved c =
    let item : c.section-item.result ≡ get_or c.args.sections.now c.loop-section.section-index c.section-item.result = search rules in
    All-more LinesStand c.args.sections.now c.loop-section.section-index c.section-item.result (search rules) c.loop-section.invariant
    (subst LinesStand item (c.in_ok-is_in_order.ensures.0 c.if-not-branch.false))

pub returns : goal.returns
returns c = (λ yes. subst (All LinesStand) (take_all c.loop-section.section-index c.args.sections.now (search rules)) c.loop-section.invariant, λ all. refl)
