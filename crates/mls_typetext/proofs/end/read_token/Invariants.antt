use Rattle.std.proofs.Common.{length}
use Rattle.mls_typetext.proofs.StackSteps.{DoSame}
use Rattle.mls_typetext.proofs.end.read_token.Given as goal

abbrev pub invariant-loop-part : goal.invariant-loop-part
invariant-loop-part l = DoSame l.kind l.initial.stack.items l.stack.items

abbrev pub decreases-loop-part : goal.decreases-loop-part
decreases-loop-part l = length l.stack.items
