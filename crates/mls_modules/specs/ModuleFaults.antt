-- Why a module has no signature.
use Rattle.std.specs.Prelude.{ℕ, List, take}
use Rattle.mls_term.specs.declared.term.Resolved.{Resolved}
use Rattle.mls_grammar.specs.declared.fault.Fault.TheVariants as names
use Rattle.mls_grammar.specs.declared.module.Module.{Module}
use Rattle.mls_names.specs.Resolution.{Resolves, HasUnknownName}
use Rattle.mls_iface.specs.declared.interface.Interface.{Interface}
use Rattle.mls_modules.specs.declared.fault.ModuleFault.{ModuleFault}
use Rattle.mls_modules.specs.declared.fault.ModuleFault.TheVariants.{UnknownName, NoScheme, Memory}
use Rattle.mls_modules.specs.Environments.{declared_names}
use Rattle.mls_modules.specs.Entries.{HasNoEntry}

-- the names of the module have meanings, and this is the first binding without an entry, and its first node without a
-- scheme
pub record IsWithoutScheme (m : Module) (imports : List Interface) (k node : ℕ) : Type 0 where
  pub resolved : Resolved
  pub resolves : Resolves m (declared_names imports) resolved
  pub none : HasNoEntry imports resolved.bindings k node

-- The module has no signature for this reason. Which kind is told of an expression without a scheme is left open: what
-- a kind says of an expression is not defined yet.
abbrev pub HasModuleFault : Module → List Interface → ModuleFault → Type 0
HasModuleFault m imports (UnknownName at) = HasUnknownName m (declared_names imports) (names.UnknownName at)
HasModuleFault m imports (NoScheme k site) = IsWithoutScheme m imports k site.node
HasModuleFault m imports Memory = ⊥

-- the module with the first bindings alone
abbrev pub first_bindings : ℕ → Module → Module
first_bindings count m = record { imports = m.imports; bindings = take count m.bindings }
