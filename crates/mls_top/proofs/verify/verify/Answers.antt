use Rattle.std.proofs.Common.{List, All, rules, sym, subst}
use Rattle.mls_grammar.specs.Modules.{IsModuleText}
use Rattle.mls_iface.specs.declared.interface.Interface.{Interface}
use Rattle.mls_modules.specs.Environments.{AreInterfacesOf, IsValidInterface}
use Rattle.mls_top.proofs.VerifiedModules.{unread_stops, bad_names_stop, bad_derivation_stops, asked_check, meant, names_stop, check_told, text_terms}
use Rattle.mls_top.proofs.Telling.{passed}
use Rattle.mls_top.proofs.verify.verify.Goals as goal

pub returns-in_err-source-clause-stop : goal.returns-in_err-source-clause-stop
returns-in_err-source-clause-stop g c =
    passed c.from_residual.result c.in_err-source.field-0.0 _ c.from_residual.ensures.1
    (unread_stops c.args.name.now _ _ c.in_err-source.field-0.0 c.in_err-source.ensures.refused c.in_err-source.ensures.counted)

pub resolved_of-requires-clause-module : goal.resolved_of-requires-clause-module
resolved_of-requires-clause-module g c = subst (λ t. IsModuleText t c.in_ok-source.source.parsed) (sym c.as_slice.ensures.value) c.in_ok-source.ensures.module

pub resolved_of-requires-clause-imports : goal.resolved_of-requires-clause-imports
resolved_of-requires-clause-imports g c = subst (λ (is : List Interface). AreInterfacesOf c.in_ok-source.source.parsed is) (sym c.as_slice-imports.ensures) c.in_ok-source.ensures.imports

pub returns-in_err-resolved-clause-stop : goal.returns-in_err-resolved-clause-stop
returns-in_err-resolved-clause-stop g c =
    passed c.from_residual-in_err-resolved.result c.in_err-resolved.field-0.0 _ c.from_residual-in_err-resolved.ensures.1
    (bad_names_stop c.args.name.now _ _ _ c.in_ok-source.source c.in_ok-source.ensures.follows c.in_ok-source.ensures.read c.in_err-resolved.field-0.0
    (names_stop c.args.name.now c.as_str.result.now c.as_slice.result.now c.in_ok-source.source.text.items c.in_ok-source.source.parsed c.as_slice-imports.result.now c.in_ok-source.source.imports c.in_err-resolved.field-0.0
    (search rules) c.as_slice.ensures.value c.as_slice-imports.ensures c.in_err-resolved.ensures.refused)
    (c.in_err-resolved.ensures.uncounted _ _))

pub returns-in_err-derivation-clause-stop : goal.returns-in_err-derivation-clause-stop
returns-in_err-derivation-clause-stop g c =
    passed c.from_residual-in_err-derivation.result c.in_err-derivation.field-0.0 _ c.from_residual-in_err-derivation.ensures.1
    (bad_derivation_stops c.args.name.now _ _ _ c.in_ok-source.source c.in_ok-source.ensures.follows c.in_ok-source.ensures.read c.in_ok-resolved.resolved
    (meant c.in_ok-source.source.parsed c.as_slice-imports.result.now c.in_ok-source.source.imports c.in_ok-resolved.resolved c.as_slice-imports.ensures c.in_ok-resolved.ensures.resolved)
    c.in_err-derivation.field-0.0 c.in_err-derivation.ensures.refused c.in_err-derivation.ensures.counted)

pub checked-requires-clause-imports : goal.checked-requires-clause-imports
checked-requires-clause-imports g c = subst (λ (is : List Interface). All IsValidInterface is) (sym c.as_slice-imports.ensures) c.in_ok-source.ensures.imports.valid

pub checked-requires-clause-terms : goal.checked-requires-clause-terms
checked-requires-clause-terms g c =
    text_terms c.in_ok-source.source.text.items c.in_ok-source.source.parsed c.as_slice-imports.result.now c.in_ok-resolved.resolved c.in_ok-source.ensures.module c.in_ok-resolved.ensures.resolved

pub returns-clause-answer : goal.returns-clause-answer
returns-clause-answer g c =
    asked_check c.args.name.now _ _ _ c.in_ok-source.source c.in_ok-source.ensures.follows c.in_ok-source.ensures.read c.in_ok-resolved.resolved
    (meant c.in_ok-source.source.parsed c.as_slice-imports.result.now c.in_ok-source.source.imports c.in_ok-resolved.resolved c.as_slice-imports.ensures c.in_ok-resolved.ensures.resolved)
    c.in_ok-derivation.derivation c.in_ok-derivation.ensures.read c.in_ok-checked.field-0
    (check_told c.args.name.now c.as_slice-imports.result.now c.in_ok-source.source.imports c.in_ok-resolved.resolved.bindings c.in_ok-derivation.derivation.sections c.in_ok-checked.field-0 c.as_slice-imports.ensures c.in_ok-checked.ensures)
