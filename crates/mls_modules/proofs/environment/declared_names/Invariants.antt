use Rattle.std.proofs.Common.{◌≡◌, take}
use Rattle.mls_modules.specs.Environments.{declared_names}
use Rattle.mls_modules.proofs.environment.declared_names.Given as goal

-- the names of the imports so far
abbrev pub invariant-loop-import : goal.invariant-loop-import
invariant-loop-import l = l.declared ≡ declared_names (take l.import-index l.imports)
