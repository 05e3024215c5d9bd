use Rattle.std.proofs.Common.{ℕ, ◌<◌}
use Rattle.mls_subsume.specs.steps.Asked.{IsGranted}
use Rattle.mls_subsume.proofs.flows.first_refused.Given as goal

abbrev pub invariant-loop-number : goal.invariant-loop-number
invariant-loop-number l = (k : ℕ) → k < l.number → IsGranted l.general l.queue.met l.table.flows k
