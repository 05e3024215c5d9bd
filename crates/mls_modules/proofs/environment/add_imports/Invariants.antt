use Rattle.std.proofs.Common.{◌≡◌, ◌++◌, take}
use Rattle.mls_modules.specs.Environments.{declared_schemes}
use Rattle.mls_modules.proofs.environment.add_imports.Given as goal

-- the schemes of the imports so far were added
abbrev pub invariant-loop-import : goal.invariant-loop-import
invariant-loop-import l = l.names.schemes ≡ l.initial.names.schemes ++ declared_schemes (take l.import-index l.imports)
