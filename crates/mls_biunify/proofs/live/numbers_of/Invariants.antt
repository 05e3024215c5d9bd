use Rattle.std.proofs.Common.{◌≡◌, take}
use Rattle.mls_biunify.specs.Live.{numbers_in}
use Rattle.mls_biunify.proofs.live.numbers_of.Given as goal

-- the numbers so far
abbrev pub invariant-loop-s : goal.invariant-loop-s
invariant-loop-s l = l.numbers.items ≡ numbers_in (take l.s-index l.states)
