use Rattle.std.proofs.Common.{◌∙◌, rules, refl, subst}
use Rattle.mls_deriv.specs.declared.verify.Verified.{Verified}
use Rattle.mls_deriv.specs.Verdicts.{IsVerdict}
use Rattle.mls_top.specs.Outcomes.{verified, refused, all_allowed, one_refused}
use Rattle.mls_top.specs.Refusals.{not_allowed}
use Rattle.mls_top.proofs.VerifiedModules.{read_schemes, terms_over, nothing_more}
use Rattle.mls_top.proofs.verify.checked.Goals as goal

pub verify-requires-clause-schemes : goal.verify-requires-clause-schemes
verify-requires-clause-schemes c = read_schemes c.in_ok-names.names c.in_ok-names.ensures.names

pub verify-requires-clause-terms : goal.verify-requires-clause-terms
verify-requires-clause-terms c = terms_over c.args.imports.now _ c.in_ok-names.names c.args.resolved.now.bindings (search rules) c.in_ok-names.ensures.environment c.requires.terms

pub returns-in-Yes : goal.returns-in-Yes
returns-in-Yes c =
    let P : Verified → Type 0 = λ v. IsVerdict c.in_ok-names.names.schemes c.args.resolved.now.bindings c.args.derivation.now.sections v in
    let yes = subst P c.in-Yes.is c.in_ok-verify.ensures in
    record {
      known = c.in_ok-names.names.schemes;
      mean = c.in_ok-names.ensures.environment ∙ nothing_more c.args.imports.now _ (search rules);
      outcome = verified;
      checks = all_allowed yes.0 yes.1;
      tells = record { status = refl; text = c.in_ok-verified_line-in-Yes.ensures };
    }

pub returns : goal.returns
returns c =
    let P : Verified → Type 0 = λ v. IsVerdict c.in_ok-names.names.schemes c.args.resolved.now.bindings c.args.derivation.now.sections v in
    record {
      known = c.in_ok-names.names.schemes;
      mean = c.in_ok-names.ensures.environment ∙ nothing_more c.args.imports.now _ (search rules);
      outcome = refused (not_allowed c.args.name.now c.in-No.step);
      checks = one_refused (subst P c.in-No.is c.in_ok-verify.ensures);
      tells = record { status = refl; text = c.in_ok-not_allowed_line-in-No.ensures };
    }
