use Rattle.std.proofs.Common.{◌≡◌, take}
use Rattle.mls_modules.proofs.first.copy_imports.Given as goal

-- the imports so far
abbrev pub invariant-loop-import : goal.invariant-loop-import
invariant-loop-import l = l.copy ≡ take l.import-index l.imports
