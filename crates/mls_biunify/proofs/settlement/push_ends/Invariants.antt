use Rattle.std.proofs.Common.{◌≡◌, ℕ, take, Contains}
use Rattle.mls_biunify.proofs.Collected.{Collected}
use Rattle.mls_biunify.proofs.settlement.push_ends.Given as goal

abbrev pub invariant-loop-n : goal.invariant-loop-n
invariant-loop-n l = Collected (λ n (y : ℕ × ℕ). y ≡ (n, l.m)) (Contains l.initial.ends.items) (Contains l.ends.items) (take l.n-index l.sources)
