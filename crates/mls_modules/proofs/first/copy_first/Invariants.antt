use Rattle.std.proofs.Common.{◌≡◌, take}
use Rattle.mls_modules.proofs.first.copy_first.Given as goal

-- the bindings so far
abbrev pub invariant-loop-i : goal.invariant-loop-i
invariant-loop-i l = l.bindings ≡ take l.i l.«module».bindings
