use Rattle.std.proofs.Common.{◌∙◌, All, List, ℕ, rules, sym, subst}
use Rattle.mls_grammar.specs.Modules.{AreDistinct}
use Rattle.mls_names.specs.Resolution.{Resolves, HasUnknownName}
use Rattle.mls_names.proofs.OneResolution.{no_unknown_name_beside_a_resolution}
use Rattle.mls_modules.specs.Environments.{declared_names}
use Rattle.mls_modules.proofs.Environments.{distinct_names}
use Rattle.mls_top.proofs.derive.meant.Goals as goal

pub resolve-requires-clause-distinct : goal.resolve-requires-clause-distinct
resolve-requires-clause-distinct c = subst (All AreDistinct) (sym (c.as_slice.ensures ∙ c.in_ok-declared.ensures)) (distinct_names c.args.imports.now c.requires.imports.valid)

pub returns : goal.returns
returns c = subst (λ (d : List (List (List ℕ))). Resolves c.args.parsed.now d c.in-Ok.resolved) (c.as_slice.ensures ∙ c.in_ok-declared.ensures) c.in-Ok.ensures.found

pub unreachable-requires : goal.unreachable-requires
unreachable-requires c =
    no_unknown_name_beside_a_resolution c.args.parsed.now (declared_names c.args.imports.now) c.requires.meanings.0 c.in-Err.fault c.requires.meanings.1
    (subst (λ (d : List (List (List ℕ))). HasUnknownName c.args.parsed.now d c.in-Err.fault) (c.as_slice.ensures ∙ c.in_ok-declared.ensures) (c.in-Err.ensures.fault (search rules)))
