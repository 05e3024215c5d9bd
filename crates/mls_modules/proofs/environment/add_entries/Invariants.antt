use Rattle.std.proofs.Common.{◌≡◌, ◌++◌, take}
use Rattle.mls_modules.specs.Environments.{entry_schemes}
use Rattle.mls_modules.proofs.environment.add_entries.Given as goal

-- the schemes so far were added
abbrev pub invariant-loop-entry : goal.invariant-loop-entry
invariant-loop-entry l = l.names.schemes ≡ l.initial.names.schemes ++ entry_schemes (take l.entry-index l.entries)
