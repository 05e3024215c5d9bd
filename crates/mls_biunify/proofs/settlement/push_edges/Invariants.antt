use Rattle.std.proofs.Common.{◌≡◌, ℕ, take, Contains}
use Rattle.mls_biunify.proofs.Collected.{Collected}
use Rattle.mls_biunify.proofs.settlement.push_edges.Given as goal

abbrev pub invariant-loop-q : goal.invariant-loop-q
invariant-loop-q l = Collected (λ q (y : ℕ × ℕ). y ≡ (l.n, q)) (Contains l.initial.edges.items) (Contains l.edges.items) (take l.q-index l.targets)
