use Rattle.std.proofs.Common.{◌≡◌, ◌<◌, ◌↔◌, ℕ, [], length, Contains, get_or}
use Rattle.mls_flow.specs.declared.standing.Use.{Use}
use Rattle.mls_flow.specs.steps.Losing.{IsUse}
use Rattle.mls_flow.proofs.standing.uses_of.Given as goal

abbrev pub invariant-loop-i : goal.invariant-loop-i
invariant-loop-i l =
    (length l.uses.items ≡ length l.claims)
    × ((u : Use) (j : ℕ) → j < length l.claims → Contains (get_or l.uses.items j []) u ↔ ((u.claim < l.i) × IsUse l.claims u j))
