use Rattle.std.proofs.Common.{◌≡◌, length}
use Rattle.mls_typetext.specs.steps.Laying.{closed, state_of}
use Rattle.mls_typetext.proofs.lay_out.Layout.next.Given as goal

-- what is over makes no difference to the state in which it is closed
abbrev pub invariant-loop-task : goal.invariant-loop-task
invariant-loop-task l = closed (state_of l.fn.self) ≡ closed (state_of l.self)

abbrev pub decreases-loop-task : goal.decreases-loop-task
decreases-loop-task l = length l.self.tasks.items
