use Rattle.std.proofs.Common.{◌≡◌, ℕ, suc, ◌-◌, get_or, length, None}
use Rattle.mls_shape.proofs.single.Singles.put.Given as goal

-- each state has the number that it had
abbrev pub invariant-loop-self : goal.invariant-loop-self
invariant-loop-self l = (t : ℕ) → get_or l.self-inside.numbers.items t None ≡ get_or l.fn.self t None

abbrev pub decreases-loop-self : goal.decreases-loop-self
decreases-loop-self l = suc l.s - length l.self-inside.numbers.items
