use Rattle.mls_subsume.proofs.AskedFlows.{AreAskedBefore}
use Rattle.mls_subsume.proofs.flows.all_asked.Given as goal

abbrev pub invariant-loop-number : goal.invariant-loop-number
invariant-loop-number l = AreAskedBefore l.general l.queue.met l.number l.flows.items
