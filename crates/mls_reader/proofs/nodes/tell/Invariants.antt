use Rattle.std.proofs.Common.{length}
use Rattle.mls_reader.proofs.LaterSteps.{GiveSame}
use Rattle.mls_reader.proofs.nodes.tell.Given as goal

abbrev pub invariant-loop-next : goal.invariant-loop-next
invariant-loop-next l = GiveSame l.later.items l.initial.later.items l.backward.items l.initial.backward.items

abbrev pub decreases-loop-next : goal.decreases-loop-next
decreases-loop-next l = length l.later.items
