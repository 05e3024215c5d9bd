use Rattle.mls_biunify.proofs.Claiming.{AreClaiming}
use Rattle.mls_biunify.proofs.absorb.claim_all.Given as goal

abbrev pub invariant-loop : goal.invariant-loop
invariant-loop l = AreClaiming l.initial.table l.table l.numbers.items l.counter
