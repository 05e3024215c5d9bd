use Rattle.std.proofs.Common.{◌≡◌, take}
use Rattle.mls_allowed.specs.MadeFirsts.{around_states}
use Rattle.mls_emit.proofs.derive.section.states_of.Given as goal

-- the binders so far
abbrev pub invariant-loop-binder : goal.invariant-loop-binder
invariant-loop-binder l = l.states.items ≡ around_states l.posing (take l.binder-index l.binders)
