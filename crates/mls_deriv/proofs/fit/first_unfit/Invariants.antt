use Rattle.std.proofs.Common.{ℕ, ◌<◌}
use Rattle.mls_deriv.specs.BadLines.{Fits}
use Rattle.mls_deriv.proofs.fit.first_unfit.Given as goal

-- the nodes so far fit
abbrev pub invariant-loop-i : goal.invariant-loop-i
invariant-loop-i l = (k : ℕ) → k < l.i → Fits l.front l.nodes k
