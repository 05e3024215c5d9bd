use Rattle.std.proofs.Common.{List, refl, rules, subst, sym, ◌∙◌}
use Rattle.mls_grammar.specs.Modules.{IsModuleText}
use Rattle.mls_iface.specs.declared.interface.Interface.{Interface}
use Rattle.mls_modules.specs.Entries.{IsSignatureText}
use Rattle.mls_modules.specs.Environments.{AreInterfacesOf}
use Rattle.mls_top.proofs.SignedModules.{unsourced_stops, bad_bindings_stop, bindings_stop, signed_learned, asked_signature}
use Rattle.mls_top.proofs.Telling.{passed, infer_stops}
use Rattle.mls_top.proofs.infer.infer.Goals as goal

pub returns-in_err-source-clause-stop : goal.returns-in_err-source-clause-stop
returns-in_err-source-clause-stop g c =
    passed c.from_residual.result c.in_err-source.field-0.0 _ c.from_residual.ensures.1
    (infer_stops c.args.name.now _ _ c.in_err-source.field-0.0
    (unsourced_stops (g.S.Store.holdings c.args.store.now).files c.args.name.now c.in_err-source.field-0.0 c.in_err-source.ensures.refused) c.in_err-source.ensures.counted)

pub printed_signature-requires-clause-source : goal.printed_signature-requires-clause-source
printed_signature-requires-clause-source g c = subst (λ t. IsModuleText t c.in_ok-source.source.parsed) (sym c.as_slice.ensures.value) c.in_ok-source.ensures.module

pub printed_signature-requires-clause-imports : goal.printed_signature-requires-clause-imports
printed_signature-requires-clause-imports g c = subst (λ (is : List Interface). AreInterfacesOf c.in_ok-source.source.parsed is) (sym c.as_slice-2.ensures) c.in_ok-source.ensures.imports

pub returns-in_err-text-clause-stop : goal.returns-in_err-text-clause-stop
returns-in_err-text-clause-stop g c =
    passed c.from_residual-in_err-text.result c.in_err-text.field-0.0 _ c.from_residual-in_err-text.ensures.1
    (infer_stops c.args.name.now _ _ c.in_err-text.field-0.0
    (bad_bindings_stop (g.S.Store.holdings c.args.store.now).files c.args.name.now c.in_ok-source.source c.in_ok-source.ensures.read c.in_err-text.field-0.0
    (bindings_stop c.args.name.now c.as_str.result.now c.as_slice.result.now c.in_ok-source.source.text.items c.in_ok-source.source.parsed c.as_slice-2.result.now c.in_ok-source.source.imports c.in_err-text.field-0.0
    (search rules) c.as_slice.ensures.value c.as_slice-2.ensures c.in_err-text.ensures.refused))
    (c.in_err-text.ensures.uncounted _ _))

pub returns-clause-answer : goal.returns-clause-answer
returns-clause-answer g c =
    let printed =
    subst (λ (given : List Interface). IsSignatureText c.in_ok-source.source.parsed given c.in_ok-text.text.items) c.as_slice-2.ensures c.in_ok-text.ensures.printed in
    asked_signature c.args.name.now _ _ (record { source = c.in_ok-source.source; signature = printed.signature })
    (signed_learned (g.S.Store.holdings c.args.store.now).files c.args.name.now c.in_ok-source.source c.in_ok-source.ensures.read printed.signature printed.is_signature) _ refl printed.text_is
