use Rattle.std.proofs.Common.{take}
use Rattle.mls_subsume.specs.steps.Asked.{AreAskedBy}
use Rattle.mls_subsume.proofs.flows.asked_along.Given as goal

abbrev pub invariant-loop-end : goal.invariant-loop-end
invariant-loop-end l = AreAskedBy l.queue.met l.positive.0 (take l.end-index l.ends) l.flows
