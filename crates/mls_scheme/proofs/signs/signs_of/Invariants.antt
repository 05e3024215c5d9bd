use Rattle.std.proofs.Common.{◌≡◌, length}
use Rattle.mls_scheme.specs.steps.Signs.{left_over, IsSigning}
use Rattle.mls_scheme.proofs.signs.signs_of.Given as goal

-- the tops so far
abbrev pub invariant-loop-task : goal.invariant-loop-task
invariant-loop-task l = (l.visits.limit ≡ length l.book) × IsSigning l.book l.root l.signs.items l.work.items

abbrev pub decreases-loop-task : goal.decreases-loop-task
decreases-loop-task l = left_over l.book l.signs.items l.work.items
