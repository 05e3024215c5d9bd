use Rattle.std.proofs.Common.{◌≡◌, ◌↔◌, drop}
use Rattle.mls_deriv.proofs.steps.is_same.Given as goal

-- what is left of both is the same exactly if both are
abbrev pub invariant-loop-i : goal.invariant-loop-i
invariant-loop-i l = (drop l.i l.env ≡ drop l.i l.other) ↔ (l.env ≡ l.other)
