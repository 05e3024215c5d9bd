use Rattle.std.proofs.Common.{◌≡◌, All, false, refl, subst, sym, true}
use Rattle.mls_deriv.specs.Texts.{IsRisingSection, IsSpelledSection}
use Rattle.mls_deriv.proofs.AllowedSections.{allowed_is_derivable}
use Rattle.mls_deriv.proofs.SectionForms.{sections_rise}
use Rattle.mls_emit.proofs.PlainTexts.{plain_sections}
use Rattle.mls_emit.proofs.derive.plain_derivation_of.Goals as goal

-- what is written plainly needs no check
pub returns-clause-steps : goal.returns-clause-steps
returns-clause-steps c = record {
  names = c.in_ok-derivation.ensures.names;
  texts = c.in_ok-derivation.ensures.texts;
  allowed = c.in_ok-derivation.ensures.allowed refl;
}

pub returns-clause-derivable : goal.returns-clause-derivable
returns-clause-derivable c =
    allowed_is_derivable c.args.declared.now.schemes c.args.«module».now.bindings c.in_ok-derivation.derivation.sections (λ k d low. (c.requires.names k d low).0) c.requires.terms
    (c.in_ok-derivation.ensures.allowed refl)

-- and it has a text
pub prove-unreachable-requires : goal.prove-unreachable-requires
prove-unreachable-requires c =
    let rise = sections_rise c.args.declared.now.schemes c.args.«module».now.bindings c.in_ok-derivation.derivation.sections (c.in_ok-derivation.ensures.allowed refl) in
    let yes_it : c.are_spelled.result ≡ true = c.are_spelled.ensures.rising (subst (All IsRisingSection) (sym c.as_slice.ensures) rise) in
    let no_it : c.are_spelled.result ≡ false = c.if-prove.true in
    absurd (cc)

pub returns-clause-text : goal.returns-clause-text
returns-clause-text c = record {
  spelled = refl;
  sections =
      plain_sections c.args.declared.now.schemes c.args.«module».now.bindings c.args.signature.now.entries c.in_ok-derivation.derivation.sections c.in_ok-derivation.ensures.names c.in_ok-derivation.ensures.texts c.requires.entries
      (c.in_ok-derivation.ensures.allowed refl) (c.in_ok-derivation.ensures.stand refl)
      (subst (All IsSpelledSection) c.as_slice.ensures (c.are_spelled.ensures.spelled.0 c.if-prove.false));
}
