use Rattle.std.proofs.Common.{◌≡◌, ◌+◌, ℕ, take, Contains}
use Rattle.mls_parts.specs.steps.Results.{AddsEdges}
use Rattle.mls_parts.proofs.pose.Posing.push_edges.Given as goal

-- the edges to those so far
abbrev pub invariant-loop-end : goal.invariant-loop-end
invariant-loop-end l = AddsEdges l.fn.self l.self (λ m r. (m ≡ l.from) × (k : ℕ) × Contains (take l.end-index l.ends) k × (r ≡ l.first + k))
