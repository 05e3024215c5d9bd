use Rattle.std.proofs.Common.{List, refl, sym, subst}
use Rattle.mls_iface.specs.declared.interface.Interface.{Interface}
use Rattle.mls_modules.specs.Entries.{IsSignatureOf}
use Rattle.mls_modules.specs.Environments.{AreInterfacesOf}
use Rattle.mls_top.proofs.DerivedModules.{asked_derivation}
use Rattle.mls_top.proofs.Telling.{passed, derive_stops}
use Rattle.mls_top.proofs.derive.derive.Goals as goal

pub returns-in_err-found-clause-stop : goal.returns-in_err-found-clause-stop
returns-in_err-found-clause-stop g c =
    passed c.from_residual.result c.in_err-found.field-0.0 _ c.from_residual.ensures.1
    (derive_stops c.args.name.now _ _ c.in_err-found.field-0.0 c.in_err-found.ensures.refused c.in_err-found.ensures.counted)

pub derived-requires-clause-imports : goal.derived-requires-clause-imports
derived-requires-clause-imports g c = subst (λ (is : List Interface). AreInterfacesOf c.in_ok-found.found.source.parsed is) (sym c.as_slice.ensures) c.in_ok-found.ensures.imports

pub derived-requires-clause-signature : goal.derived-requires-clause-signature
derived-requires-clause-signature g c =
    subst (λ (is : List Interface). IsSignatureOf c.in_ok-found.found.source.parsed is c.in_ok-found.found.signature) (sym c.as_slice.ensures) c.in_ok-found.ensures.signature

pub returns-clause-answer : goal.returns-clause-answer
returns-clause-answer g c =
    let it = c.in_ok-text.ensures in
    asked_derivation c.args.name.now _ _ c.in_ok-found.found c.in_ok-found.ensures.signed c.as_slice.result.now c.as_slice.ensures it.0 it.2 _ refl it.1
