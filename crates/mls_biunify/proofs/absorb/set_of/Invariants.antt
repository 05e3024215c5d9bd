use Rattle.std.proofs.Common.{◌≡◌, take}
use Rattle.mls_biunify.proofs.absorb.set_of.Given as goal

-- the numbers so far
abbrev pub invariant-loop-s : goal.invariant-loop-s
invariant-loop-s l = l.set ≡ take l.s-index l.numbers
