use Rattle.std.proofs.Common.{◌∙◌, ◌+◌, sym, subst, All}
use Rattle.mls_grammar.specs.Modules.{AreDistinct}
use Rattle.mls_names.specs.Resolution.{Resolves, declared_count}
use Rattle.mls_names.specs.ResolutionLaws.{AreTerms}
use Rattle.mls_names.proofs.NumberedTerms.{resolved_are_terms}
use Rattle.mls_modules.specs.Environments.{declared_names}
use Rattle.mls_modules.proofs.Environments.{distinct_names}
use Rattle.mls_modules.proofs.infer.infer_module.Goals as goal

pub resolve-requires-clause-distinct : goal.resolve-requires-clause-distinct
resolve-requires-clause-distinct c =
    subst (All AreDistinct) (sym (c.as_slice.ensures ∙ c.in_ok-declared.ensures)) (distinct_names c.args.imports.now c.requires.imports.valid)

pub signature_of-requires-clause-terms : goal.signature_of-requires-clause-terms
signature_of-requires-clause-terms c =
    let names = declared_names c.args.imports.now in
    subst (AreTerms (5 + declared_count names)) (sym c.as_slice-in-Ok.ensures)
    (resolved_are_terms c.args.«module».now names c.in-Ok.resolved c.requires.«module»
    (subst (λ d. Resolves c.args.«module».now d c.in-Ok.resolved) (c.as_slice.ensures ∙ c.in_ok-declared.ensures) c.in-Ok.ensures.found))
