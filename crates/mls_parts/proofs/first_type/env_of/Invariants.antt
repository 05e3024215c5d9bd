use Rattle.std.proofs.Common.{◌≡◌, take}
use Rattle.mls_parts.specs.SolvedTypes.{entries_of}
use Rattle.mls_parts.proofs.first_type.env_of.Given as goal

-- the binders so far
abbrev pub invariant-loop-binder : goal.invariant-loop-binder
invariant-loop-binder l = l.env ≡ entries_of (take l.binder-index l.binders)
