use Rattle.std.proofs.Common.{◌+◌, ◌*◌, length}
use Rattle.mls_typetext.specs.steps.NameReaders.{tasks_of, known_of}
use Rattle.mls_typetext.proofs.Resolved.{IsGoing}
use Rattle.mls_typetext.proofs.resolve.resolve.Given as goal

abbrev pub invariant-loop-task : goal.invariant-loop-task
invariant-loop-task l = IsGoing l.fn.pieces.items l.left.items (tasks_of l.reader) (known_of l.reader)

-- a piece makes at most three tasks of one
abbrev pub decreases-loop-task : goal.decreases-loop-task
decreases-loop-task l = 3 * length l.left.items + length (tasks_of l.reader)
