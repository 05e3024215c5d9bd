use Rattle.std.proofs.Common.{◌≡◌, ◌↔◌, drop}
use Rattle.mls_deriv.proofs.rules.are_same_bytes.Given as goal

-- what is left of both is the same exactly if both are
abbrev pub invariant-loop-i : goal.invariant-loop-i
invariant-loop-i l = (drop l.i l.bytes ≡ drop l.i l.others) ↔ (l.bytes ≡ l.others)
