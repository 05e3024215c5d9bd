use Rattle.std.proofs.Common.{All, take}
use Rattle.mls_biunify.specs.steps.Marking.{WasFound}
use Rattle.mls_biunify.proofs.keep.were_found.Given as goal

-- all of the states so far were found
abbrev pub invariant-loop-s : goal.invariant-loop-s
invariant-loop-s l = All (WasFound l.found) (take l.s-index l.states)
