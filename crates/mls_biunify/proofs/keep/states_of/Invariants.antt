use Rattle.std.proofs.Common.{◌≡◌, take}
use Rattle.mls_biunify.specs.Live.{numbers_in}
use Rattle.mls_biunify.proofs.keep.states_of.Given as goal

-- the states so far
abbrev pub invariant-loop-s : goal.invariant-loop-s
invariant-loop-s l = numbers_in l.states.items ≡ take l.s-index l.s-items
