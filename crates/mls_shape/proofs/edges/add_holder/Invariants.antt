use Rattle.std.proofs.Common.{◌≡◌, take, Contains}
use Rattle.mls_shape.specs.steps.Edges.{AddsHolders}
use Rattle.mls_shape.proofs.edges.add_holder.Given as goal

abbrev pub invariant-loop-j : goal.invariant-loop-j
invariant-loop-j l = AddsHolders l.fn.holders.items l.holders.items (λ u j. (u ≡ l.holder) × Contains (take l.j-index l.members) j)
