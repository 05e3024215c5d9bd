use Rattle.mls_subsume.proofs.FirstFailures.{HasNoHeadBefore}
use Rattle.mls_subsume.proofs.reasons.first_by_head.Given as goal

abbrev pub invariant-loop-number : goal.invariant-loop-number
invariant-loop-number l = HasNoHeadBefore l.general l.special l.queue.met l.number
