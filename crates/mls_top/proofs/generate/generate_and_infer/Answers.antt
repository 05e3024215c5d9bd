use Rattle.std.proofs.Common.{rules, refl, sym, ap, ◌∙◌, subst, ◌≡◌, List, ℕ, length}
use Rattle.mls_grammar.specs.Modules.{IsModuleText}
use Rattle.mls_top.proofs.GeneratedModules.{generated_module_stops, generated_imports, generated_bindings_stop, generated_signed}
use Rattle.mls_top.proofs.Telling.{passed}
use Rattle.mls_top.proofs.generate.generate_and_infer.Goals as goal

pub returns-in_err-source-clause-stop : goal.returns-in_err-source-clause-stop
returns-in_err-source-clause-stop c =
    passed c.from_residual-in_err-source.result c.in_err-source.field-0.0 _ c.from_residual-in_err-source.ensures.1
    (generated_module_stops c.args.seed c.args.count c.requires.some c.requires.short _ c.as_slice.result.now c.in_err-source.field-0.0 (search rules) (search rules)
    c.in_err-source.ensures.refused c.in_err-source.ensures.uncounted)

pub printed_signature-requires-clause-imports : goal.printed_signature-requires-clause-imports
printed_signature-requires-clause-imports c =
    generated_imports c.args.seed c.args.count c.requires.some c.requires.short c.as_slice.result.now (search rules) c.in_ok-source.source c.in_ok-source.ensures.module _ refl

pub returns-in_err-printed-clause-stop : goal.returns-in_err-printed-clause-stop
returns-in_err-printed-clause-stop c =
    let again : c.as_slice.result.now ≡ c.as_slice-2.result.now = c.as_slice.ensures.value ∙ sym c.as_slice-2.ensures.value in
    passed c.from_residual-in_err-printed.result c.in_err-printed.field-0.0 _ c.from_residual-in_err-printed.ensures.1
    (generated_bindings_stop c.args.seed c.args.count c.requires.some c.requires.short c.as_slice-2.result.now (search rules) c.in_ok-source.source
    (subst (λ t. IsModuleText t c.in_ok-source.source) again c.in_ok-source.ensures.module) _ _ c.in_err-printed.field-0.0 (search rules) refl
    c.in_err-printed.ensures.refused c.in_err-printed.ensures.uncounted)

pub returns-clause-answer : goal.returns-clause-answer
returns-clause-answer c =
    let again : c.as_slice.result.now ≡ c.as_slice-2.result.now = c.as_slice.ensures.value ∙ sym c.as_slice-2.ensures.value in
    let printed = c.in_ok-printed.ensures.printed in
    let size : c.len-2.result ≡ length c.in_ok-printed.printed.items = search rules in
    generated_signed c.args.seed c.args.count c.requires.some c.requires.short c.as_slice-2.result.now (search rules) c.in_ok-source.source
    (subst (λ t. IsModuleText t c.in_ok-source.source) again c.in_ok-source.ensures.module) _ refl printed.signature printed.is_signature
    c.len.result c.len-2.result (search rules) (size ∙ ap (λ (t : List ℕ). length t) printed.text_is) _ refl c.in_ok-generated_line.ensures
