use Rattle.std.proofs.Common.{List, rules, sym, subst}
use Rattle.mls_grammar.specs.Modules.{IsModuleText}
use Rattle.mls_iface.specs.declared.interface.Interface.{Interface}
use Rattle.mls_modules.specs.Entries.{IsSignatureOf}
use Rattle.mls_modules.specs.Environments.{AreInterfacesOf}
use Rattle.mls_top.proofs.SignedModules.{unsourced_stops, bad_bindings_stop, signed_learned, bindings_stop}
use Rattle.mls_top.proofs.Telling.{passed}
use Rattle.mls_top.proofs.infer.signed.Goals as goal

pub returns-in_err-source-clause-refused : goal.returns-in_err-source-clause-refused
returns-in_err-source-clause-refused g c =
    passed c.from_residual.result c.in_err-source.field-0.0 _ c.from_residual.ensures.1
    (unsourced_stops (g.S.Store.holdings c.args.store.now).files c.args.name.now c.in_err-source.field-0.0 c.in_err-source.ensures.refused)

pub signature_of-requires-clause-source : goal.signature_of-requires-clause-source
signature_of-requires-clause-source g c = subst (λ t. IsModuleText t c.in_ok-source.source.parsed) (sym c.as_slice.ensures.value) c.in_ok-source.ensures.module

pub signature_of-requires-clause-imports : goal.signature_of-requires-clause-imports
signature_of-requires-clause-imports g c = subst (λ (is : List Interface). AreInterfacesOf c.in_ok-source.source.parsed is) (sym c.as_slice-2.ensures) c.in_ok-source.ensures.imports

pub returns-in_err-signature-clause-refused : goal.returns-in_err-signature-clause-refused
returns-in_err-signature-clause-refused g c =
    passed c.from_residual-in_err-signature.result c.in_err-signature.field-0.0 _ c.from_residual-in_err-signature.ensures.1
    (bad_bindings_stop (g.S.Store.holdings c.args.store.now).files c.args.name.now c.in_ok-source.source c.in_ok-source.ensures.read c.in_err-signature.field-0.0
    (bindings_stop c.args.name.now c.as_str.result.now c.as_slice.result.now c.in_ok-source.source.text.items c.in_ok-source.source.parsed c.as_slice-2.result.now c.in_ok-source.source.imports c.in_err-signature.field-0.0
    (search rules) c.as_slice.ensures.value c.as_slice-2.ensures c.in_err-signature.ensures.refused))

pub returns-in_err-signature-clause-counted : goal.returns-in_err-signature-clause-counted
returns-in_err-signature-clause-counted g c =
    passed c.from_residual-in_err-signature.result c.in_err-signature.field-0.0 _ c.from_residual-in_err-signature.ensures.1 (c.in_err-signature.ensures.uncounted _ _)

pub returns-clause-signed : goal.returns-clause-signed
returns-clause-signed g c =
    signed_learned (g.S.Store.holdings c.args.store.now).files c.args.name.now c.in_ok-source.source c.in_ok-source.ensures.read c.in_ok-signature.signature
    (subst (λ (given : List Interface). IsSignatureOf c.in_ok-source.source.parsed given c.in_ok-signature.signature) c.as_slice-2.ensures c.in_ok-signature.ensures.signature)
