use Rattle.std.proofs.Common.{◌≡◌, take}
use Rattle.mls_parts.specs.SolvedTypes.{entries_of}
use Rattle.mls_allowed.specs.MadeFirsts.{around_states}
use Rattle.mls_emit.proofs.derive.section.env_of.Given as goal

-- the binders so far
abbrev pub invariant-loop-binder : goal.invariant-loop-binder
invariant-loop-binder l = l.env ≡ entries_of (around_states l.posing (take l.binder-index l.binders))
