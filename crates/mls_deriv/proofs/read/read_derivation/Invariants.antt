use Rattle.std.proofs.Common.{length}
use Rattle.mls_deriv.proofs.ReadParts.{HaveRead}
use Rattle.mls_deriv.proofs.read.read_derivation.Given as goal

-- the sections so far and what is left are the text
abbrev pub invariant-loop-rest : goal.invariant-loop-rest
invariant-loop-rest l = HaveRead l.text l.sections l.rest l.number

abbrev pub decreases-loop-rest : goal.decreases-loop-rest
decreases-loop-rest l = length l.rest
