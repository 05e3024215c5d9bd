use Rattle.std.proofs.Common.{◌≡◌, take, Contains}
use Rattle.mls_biunify.proofs.Collected.{Collected}
use Rattle.mls_biunify.proofs.settlement.insert_all.Given as goal

abbrev pub invariant-loop-s : goal.invariant-loop-s
invariant-loop-s l = Collected (λ x y. y ≡ x) (Contains l.initial.set) (Contains l.set) (take l.s-index l.s-items)
