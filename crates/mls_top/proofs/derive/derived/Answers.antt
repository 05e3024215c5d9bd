use Rattle.std.proofs.Common.{◌∙◌, rules}
use Rattle.mls_names.proofs.NumberedTerms.{resolved_are_terms}
use Rattle.mls_modules.specs.Environments.{declared_names}
use Rattle.mls_modules.proofs.ValidSignatures.{signatures_are_valid}
use Rattle.mls_top.proofs.DerivableEntries.{signature_can}
use Rattle.mls_top.proofs.VerifiedModules.{terms_over, nothing_more}
use Rattle.mls_top.proofs.derive.derived.Goals as goal

pub meant-requires-clause-meanings : goal.meant-requires-clause-meanings
meant-requires-clause-meanings c = (c.requires.signature.resolved, c.requires.signature.resolves)

pub names_of-requires-clause-imports : goal.names_of-requires-clause-imports
names_of-requires-clause-imports c = c.requires.imports.valid

pub derivation_of-requires-clause-terms : goal.derivation_of-requires-clause-terms
derivation_of-requires-clause-terms c =
    terms_over c.args.imports.now _ c.in_ok-names.names c.in_ok-resolved.resolved.bindings (search rules) c.in_ok-names.ensures.environment
    (resolved_are_terms c.args.parsed.now (declared_names c.args.imports.now) c.in_ok-resolved.resolved c.requires.«module» c.in_ok-resolved.ensures)

pub derivation_of-requires-clause-entries : goal.derivation_of-requires-clause-entries
derivation_of-requires-clause-entries c = (signatures_are_valid c.args.parsed.now c.args.imports.now c.args.signature.now c.requires.«module» c.requires.signature).each

-- each type of a signature is derivable
pub derivation_of-requires-clause-derivable : goal.derivation_of-requires-clause-derivable
derivation_of-requires-clause-derivable c =
    signature_can c.args.imports.now c.args.parsed.now c.args.signature.now c.in_ok-resolved.resolved c.in_ok-names.names.schemes c.requires.signature c.in_ok-resolved.ensures
    (c.in_ok-names.ensures.environment ∙ nothing_more c.args.imports.now _ (search rules))

pub returns : goal.returns
returns c = (
  c.in_ok-derivation.derivation,
  c.in_ok-text.ensures,
  record {
    b = c.in_ok-resolved.resolved;
    resolves = c.in_ok-resolved.ensures;
    known = c.in_ok-names.names.schemes;
    mean = c.in_ok-names.ensures.environment ∙ nothing_more c.args.imports.now _ (search rules);
    derives = c.in_ok-derivation.ensures.steps;
    derivable = c.in_ok-derivation.ensures.derivable;
    text_of = c.in_ok-derivation.ensures.text;
  },
)
