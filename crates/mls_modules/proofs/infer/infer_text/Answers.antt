use Rattle.std.proofs.Common.{ℕ, ◌∙◌, ◌+◌, sym, subst, All}
use Rattle.std.specs.Global.{Vec}
use Rattle.std.proofs.lemmas.Result.{IfOk-weaker}
use Rattle.mls_grammar.specs.Modules.{AreDistinct}
use Rattle.mls_names.specs.Resolution.{Resolves, declared_count}
use Rattle.mls_names.specs.ResolutionLaws.{AreTerms}
use Rattle.mls_names.proofs.NumberedTerms.{resolved_are_terms}
use Rattle.mls_modules.specs.Entries.{IsSignatureText}
use Rattle.mls_modules.specs.Environments.{declared_names}
use Rattle.mls_modules.specs.steps.Inferring.{IsTextOfAll}
use Rattle.mls_modules.proofs.Environments.{distinct_names}
use Rattle.mls_modules.proofs.Lines.{text_of_signature}
use Rattle.mls_modules.proofs.infer.infer_text.Goals as goal

pub resolve-requires-clause-distinct : goal.resolve-requires-clause-distinct
resolve-requires-clause-distinct c =
    subst (All AreDistinct) (sym (c.as_slice.ensures ∙ c.in_ok-declared.ensures)) (distinct_names c.args.imports.now c.requires.imports.valid)

pub text_of-requires-clause-terms : goal.text_of-requires-clause-terms
text_of-requires-clause-terms c =
    let names = declared_names c.args.imports.now in
    subst (AreTerms (5 + declared_count names)) (sym c.as_slice-in-Ok.ensures)
    (resolved_are_terms c.args.«module».now names c.in-Ok.resolved c.requires.«module»
    (subst (λ d. Resolves c.args.«module».now d c.in-Ok.resolved) (c.as_slice.ensures ∙ c.in_ok-declared.ensures) c.in-Ok.ensures.found))

pub returns-in-Ok-clause-text : goal.returns-in-Ok-clause-text
returns-in-Ok-clause-text c =
    let m = c.args.«module».now in
    let imports = c.args.imports.now in
    let resolved = c.in-Ok.resolved in
    let resolves : Resolves m (declared_names imports) resolved =
    subst (λ d. Resolves m d resolved) (c.as_slice.ensures ∙ c.in_ok-declared.ensures) c.in-Ok.ensures.found in
    IfOk-weaker c.text_of.result (λ (text : Vec ℕ). IsTextOfAll imports c.as_slice-in-Ok.result.now text.items) (λ (text : Vec ℕ). IsSignatureText m imports text.items)
    (λ text it. text_of_signature m imports resolved text.items resolves (subst (λ bs. IsTextOfAll imports bs text.items) c.as_slice-in-Ok.ensures it)) c.text_of.ensures.text
