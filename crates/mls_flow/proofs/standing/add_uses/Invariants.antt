use Rattle.std.proofs.Common.{◌≡◌, take, Contains}
use Rattle.mls_flow.specs.steps.Losing.{AddsUses}
use Rattle.mls_flow.proofs.standing.add_uses.Given as goal

abbrev pub invariant-loop-j : goal.invariant-loop-j
invariant-loop-j l = AddsUses l.fn.uses.items l.uses.items (λ u j. (u ≡ l.used) × Contains (take l.j-index l.members) j)
