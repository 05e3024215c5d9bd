use Rattle.mls_subsume.proofs.SplitWalks.{ArePairsBefore}
use Rattle.mls_subsume.proofs.subsume.pairs_with.Given as goal

abbrev pub invariant-loop-number : goal.invariant-loop-number
invariant-loop-number l = ArePairsBefore l.general l.polarity l.queue.met l.number l.pairs
