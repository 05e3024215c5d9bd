-- Laws of signatures of modules.
use Rattle.std.specs.Prelude.{◌≡◌, List, [], ◌∷◌, All}
use Rattle.mls_book.specs.Schemes.{AreEquivalent}
use Rattle.mls_grammar.specs.declared.module.Module.{Module}
use Rattle.mls_grammar.specs.Modules.{IsModule}
use Rattle.mls_typetext.specs.Schemes.{scheme_of}
use Rattle.mls_iface.specs.declared.interface.Interface.{Interface}
use Rattle.mls_iface.specs.declared.signature.SigEntry.{SigEntry}
use Rattle.mls_iface.specs.declared.signature.Signature.{Signature}
use Rattle.mls_iface.specs.Signatures.{AreEntries}
use Rattle.mls_modules.specs.declared.fault.ModuleFault.{ModuleFault}
use Rattle.mls_modules.specs.declared.fault.ModuleFault.TheVariants.{UnknownName, NoScheme}
use Rattle.mls_modules.specs.Environments.{IsValidInterface}
use Rattle.mls_modules.specs.Entries.{IsSignatureOf}
use Rattle.mls_modules.specs.ModuleFaults.{HasModuleFault}

-- a signature has an entry with a name of its own for each binding
abbrev pub SignaturesAreValid : Type 0
SignaturesAreValid =
    (m : Module) (imports : List Interface) (s : Signature) → IsModule m → IsSignatureOf m imports s
    → AreEntries s.entries

-- the entries have the same names and equivalent schemes, one after the other
abbrev pub AreAlike : List SigEntry → List SigEntry → Type 0
AreAlike [] [] = Unit {0}
AreAlike (e ∷ es) (f ∷ fs) = (e.name ≡ f.name) × AreEquivalent (scheme_of e.scheme) (scheme_of f.scheme)
    × AreAlike es fs
AreAlike _ _ = ⊥

-- two signatures of a module over the same interfaces are alike
abbrev pub OneSignature : Type 0
OneSignature =
    (m : Module) (imports : List Interface) (s other : Signature) → All IsValidInterface imports
    → IsSignatureOf m imports s → IsSignatureOf m imports other → AreAlike s.entries other.entries

-- a module with a signature has no fault
abbrev pub NoFaultBesideSignature : Type 0
NoFaultBesideSignature =
    (m : Module) (imports : List Interface) (s : Signature) (fault : ModuleFault) → All IsValidInterface imports
    → IsSignatureOf m imports s → HasModuleFault m imports fault → ⊥

-- the same place, or the same binding and node
abbrev pub IsSameFault : ModuleFault → ModuleFault → Type 0
IsSameFault (UnknownName at) (UnknownName other) = at ≡ other
IsSameFault (NoScheme k site) (NoScheme l other) = (k ≡ l) × (site.node ≡ other.node)
IsSameFault _ _ = ⊥

-- a module has one fault over the same interfaces
abbrev pub OneModuleFault : Type 0
OneModuleFault =
    (m : Module) (imports : List Interface) (fault other : ModuleFault) → All IsValidInterface imports
    → HasModuleFault m imports fault → HasModuleFault m imports other → IsSameFault fault other
