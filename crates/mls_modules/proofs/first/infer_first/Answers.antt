use Rattle.std.proofs.Common.{◌≢◌, sym, subst}
use Rattle.std.specs.Prelude.{IfOk, IfErr}
use Rattle.mls_grammar.specs.Modules.{IsModule}
use Rattle.mls_modules.specs.declared.fault.ModuleFault.TheVariants.{Memory}
use Rattle.mls_modules.specs.Environments.{AreInterfacesOf}
use Rattle.mls_modules.specs.Entries.{IsSignatureOf}
use Rattle.mls_modules.specs.ModuleFaults.{HasModuleFault}
use Rattle.mls_modules.proofs.FirstBindings.{first_is_module}
use Rattle.mls_modules.proofs.first.infer_first.Goals as goal

pub infer_module-requires-clause-module : goal.infer_module-requires-clause-module
infer_module-requires-clause-module c =
    subst IsModule (sym c.in_ok-first.ensures) (first_is_module c.args.«module».now c.args.count c.requires.count c.requires.«module»)

pub infer_module-requires-clause-imports : goal.infer_module-requires-clause-imports
infer_module-requires-clause-imports c =
    subst (λ m. AreInterfacesOf m c.args.imports.now) (sym c.in_ok-first.ensures) (record { count = c.requires.imports.count; valid = c.requires.imports.valid })

pub returns-clause-signature : goal.returns-clause-signature
returns-clause-signature c = subst (λ m. IfOk c.infer_module.result (IsSignatureOf m c.args.imports.now)) c.in_ok-first.ensures c.infer_module.ensures.signature

pub returns-clause-fault : goal.returns-clause-fault
returns-clause-fault c =
    subst (λ m. IfErr c.infer_module.result (λ f. f ≢ Memory → HasModuleFault m c.args.imports.now f)) c.in_ok-first.ensures c.infer_module.ensures.fault
