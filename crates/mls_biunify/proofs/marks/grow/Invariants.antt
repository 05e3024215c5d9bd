use Rattle.std.proofs.Common.{◌≡◌, ◌+◌, ◌-◌, ℕ, false, get_or, length}
use Rattle.mls_biunify.proofs.marks.grow.Given as goal

-- the marks stay
abbrev pub invariant-loop-marks : goal.invariant-loop-marks
invariant-loop-marks l = (j : ℕ) → get_or l.marks.items j false ≡ get_or l.fn.marks.items j false

abbrev pub decreases-loop-marks : goal.decreases-loop-marks
decreases-loop-marks l = l.s + 1 - length l.marks.items
