use Rattle.std.proofs.Common.{List, length}
use Rattle.mls_names.specs.Resolution.{Scope}
use Rattle.mls_names.specs.steps.Walks.{Waiting, HasWaiting}
use Rattle.mls_names.proofs.resolver.Resolver.next_stretch.Given as goal

-- the parts that waited still wait
abbrev pub invariant-loop-task : goal.invariant-loop-task
invariant-loop-task l = (outside : Scope) (ws : List Waiting) → HasWaiting outside l.initial.self ws → HasWaiting outside l.self ws

abbrev pub decreases-loop-task : goal.decreases-loop-task
decreases-loop-task l = length l.self.tasks.items
