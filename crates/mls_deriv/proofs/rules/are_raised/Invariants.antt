use Rattle.std.proofs.Common.{◌≡◌, ◌↔◌, drop, map}
use Rattle.mls_deriv.specs.Steps.{raised_field}
use Rattle.mls_deriv.proofs.rules.are_raised.Given as goal

-- what is left of both is alike exactly if both are
abbrev pub invariant-loop-i : goal.invariant-loop-i
invariant-loop-i l = (drop l.i l.fields ≡ map (raised_field l.n) (drop l.i l.others)) ↔ (l.fields ≡ map (raised_field l.n) l.others)
