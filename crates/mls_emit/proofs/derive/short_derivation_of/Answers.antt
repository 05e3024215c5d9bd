use Rattle.std.proofs.Common.{rules, ◌≡◌, All, false, refl, subst, sym, true}
use Rattle.mls_deriv.specs.Sections.{AreSectionsAllowed}
use Rattle.mls_deriv.specs.Texts.{IsRisingSection, IsSpelledSection, LinesStand}
use Rattle.mls_deriv.proofs.SectionForms.{sections_rise}
use Rattle.mls_emit.proofs.PlainTexts.{plain_sections}
use Rattle.mls_emit.proofs.derive.short_derivation_of.Goals as goal

pub prove-unreachable-requires : goal.prove-unreachable-requires
prove-unreachable-requires c =
    let allowed : AreSectionsAllowed c.args.declared.now.schemes c.args.«module».now.bindings c.in_ok-derivation.derivation.sections = search rules in
    let rise = sections_rise c.args.declared.now.schemes c.args.«module».now.bindings c.in_ok-derivation.derivation.sections allowed in
    let yes_it : c.are_spelled.result ≡ true = c.are_spelled.ensures.rising (subst (All IsRisingSection) (sym c.as_slice-2.ensures) rise) in
    let no_it : c.are_spelled.result ≡ false = c.if-prove.true in
    absurd (cc)

-- an allowed derivation whose lines stand has a text
pub returns-clause-text : goal.returns-clause-text
returns-clause-text c = record {
  spelled = refl;
  sections =
      let allowed : AreSectionsAllowed c.args.declared.now.schemes c.args.«module».now.bindings c.in_ok-derivation.derivation.sections = search rules in
      plain_sections c.args.declared.now.schemes c.args.«module».now.bindings c.args.signature.now.entries c.in_ok-derivation.derivation.sections c.in_ok-derivation.ensures.names c.in_ok-derivation.ensures.texts c.requires.entries
      allowed (subst (All LinesStand) c.as_slice.ensures (c.in_ok-all_stand.ensures.0 c.if-not-branch.false))
      (subst (All IsSpelledSection) c.as_slice-2.ensures (c.are_spelled.ensures.spelled.0 c.if-prove.false));
}
