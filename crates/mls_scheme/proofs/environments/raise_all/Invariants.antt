use Rattle.std.proofs.Common.{◌≡◌, map, take}
use Rattle.mls_scheme.specs.steps.Environments.{raised_entry}
use Rattle.mls_scheme.proofs.environments.raise_all.Given as goal

-- the entries so far
abbrev pub invariant-loop-entry : goal.invariant-loop-entry
invariant-loop-entry l = l.raised ≡ map (raised_entry l.up) (take l.entry-index l.entry-items)
