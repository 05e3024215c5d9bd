use Rattle.std.proofs.Common.{rules, ◌≡◌, All, true, false, refl, subst}
use Rattle.std.proofs.lemmas.List.{take_all}
use Rattle.std.proofs.lemmas.List.Elements.{All-get_or, All-more}
use Rattle.mls_deriv.specs.Texts.{IsRisingSection, IsSpelledSection}
use Rattle.mls_deriv.proofs.printable.are_spelled.Goals as goal

-- a section that may not be spelled
pub returns-then-not-is_spelled-clause-spelled : goal.returns-then-not-is_spelled-clause-spelled
returns-then-not-is_spelled-clause-spelled c = (
  λ no. absurd (cc),
  λ all.
      let form : IsSpelledSection c.section-item.result = subst IsSpelledSection (search rules) (All-get_or IsSpelledSection c.args.sections.now c.loop-section.section-index c.section-item.result (search rules) all) in
      let yes' : c.is_spelled.result ≡ true = c.is_spelled.ensures.spelled.1 form in
      let no' : c.is_spelled.result ≡ false = c.if-not-is_spelled.true in
      absurd (cc),
)

pub returns-then-not-is_spelled-clause-rising : goal.returns-then-not-is_spelled-clause-rising
returns-then-not-is_spelled-clause-rising c = λ all.
    let rises : IsRisingSection c.section-item.result = subst IsRisingSection (search rules) (All-get_or IsRisingSection c.args.sections.now c.loop-section.section-index c.section-item.result (search rules) all) in
    let yes' : c.is_spelled.result ≡ true = c.is_spelled.ensures.rising rises in
    let no' : c.is_spelled.result ≡ false = c.if-not-is_spelled.true in
    absurd (cc)

pub loop-section-preserved : goal.loop-section-preserved
loop-section-preserved c =
    All-more IsSpelledSection c.args.sections.now c.loop-section.section-index c.section-item.result (search rules) c.loop-section.invariant
    (subst IsSpelledSection (search rules) (c.is_spelled.ensures.spelled.0 c.if-not-is_spelled.false))

pub returns-clause-spelled : goal.returns-clause-spelled
returns-clause-spelled c = (λ yes. subst (All IsSpelledSection) (take_all c.loop-section.section-index c.args.sections.now (search rules)) c.loop-section.invariant, λ all. refl)
