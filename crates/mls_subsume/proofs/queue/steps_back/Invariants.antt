use Rattle.std.proofs.Common.{◌≡◌, ◌<◌, ◌++◌, length, reverse}
use Rattle.mls_subsume.specs.Searches.{met_at}
use Rattle.mls_subsume.specs.steps.Queues.{met_of}
use Rattle.mls_subsume.proofs.queue.steps_back.Given as goal

abbrev pub invariant-loop-at : goal.invariant-loop-at
invariant-loop-at l =
    (l.at < length l.visits)
    × ((met_at (met_of l.visits) l.at).steps ++ reverse l.steps ≡ (met_at (met_of l.visits) l.number).steps)

abbrev pub decreases-loop-at : goal.decreases-loop-at
decreases-loop-at l = l.at
