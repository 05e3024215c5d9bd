use Rattle.std.proofs.Common.{◌≡◌, ◌≤◌, ◌-◌, [], length}
use Rattle.mls_scheme.specs.steps.Uses.{uses_at}
use Rattle.mls_scheme.proofs.uses.no_uses.Given as goal

-- none so far
abbrev pub invariant-loop-alloc : goal.invariant-loop-alloc
invariant-loop-alloc l = (length l.uses.items ≤ l.vars) × ((x : _) → uses_at l.uses.items x ≡ [])

abbrev pub decreases-loop-alloc : goal.decreases-loop-alloc
decreases-loop-alloc l = l.vars - length l.uses.items
