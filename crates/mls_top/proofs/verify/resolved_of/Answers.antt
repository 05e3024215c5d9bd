use Rattle.std.proofs.Common.{◌∙◌, All, List, ℕ, rules, sym, subst}
use Rattle.mls_grammar.specs.Modules.{AreDistinct}
use Rattle.mls_names.specs.Resolution.{Resolves, HasUnknownName}
use Rattle.mls_names.proofs.NamesWithin.{unknown-within}
use Rattle.mls_modules.specs.Environments.{declared_names}
use Rattle.mls_modules.proofs.Environments.{distinct_names}
use Rattle.mls_top.specs.Outcomes.{no_meaning}
use Rattle.mls_top.specs.Refusals.{for_fault}
use Rattle.mls_top.proofs.verify.resolved_of.Goals as goal

pub resolve-requires-clause-distinct : goal.resolve-requires-clause-distinct
resolve-requires-clause-distinct c = subst (All AreDistinct) (sym (c.as_slice.ensures ∙ c.in_ok-declared.ensures)) (distinct_names c.args.imports.now c.requires.imports.valid)

pub returns-in-Ok-clause-resolved : goal.returns-in-Ok-clause-resolved
returns-in-Ok-clause-resolved c = subst (λ (d : List (List (List ℕ))). Resolves c.args.parsed.now d c.in-Ok.resolved) (c.as_slice.ensures ∙ c.in_ok-declared.ensures) c.in-Ok.ensures.found

pub faulty_module-requires : goal.faulty_module-requires
faulty_module-requires c =
    unknown-within c.args.text.now c.args.parsed.now (declared_names c.args.imports.now) c.in-Err.fault c.requires.«module»
    (subst (λ (d : List (List (List ℕ))). HasUnknownName c.args.parsed.now d c.in-Err.fault) (c.as_slice.ensures ∙ c.in_ok-declared.ensures) (c.in-Err.ensures.fault (search rules)))

pub returns-clause-refused : goal.returns-clause-refused
returns-clause-refused c = (
  for_fault c.args.file.now c.args.text.now c.in-Err.fault,
  c.in_ok-faulty_module-in-Err.ensures,
  no_meaning (subst (λ (d : List (List (List ℕ))). HasUnknownName c.args.parsed.now d c.in-Err.fault) (c.as_slice.ensures ∙ c.in_ok-declared.ensures) (c.in-Err.ensures.fault (search rules))),
)
