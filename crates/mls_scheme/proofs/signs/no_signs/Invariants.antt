use Rattle.std.proofs.Common.{◌≡◌, ◌≤◌, ◌-◌, length, None}
use Rattle.mls_scheme.specs.steps.Signs.{sign_at}
use Rattle.mls_scheme.proofs.signs.no_signs.Given as goal

-- none so far
abbrev pub invariant-loop-signs : goal.invariant-loop-signs
invariant-loop-signs l = (length l.signs.items ≤ l.many) × ((i : _) → sign_at l.signs.items i ≡ None)

abbrev pub decreases-loop-signs : goal.decreases-loop-signs
decreases-loop-signs l = l.many - length l.signs.items
