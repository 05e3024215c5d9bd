use Rattle.std.proofs.Common.{◌+◌, length}
use Rattle.mls_print.proofs.WalkLoop.{IsWalking, weight}
use Rattle.mls_print.proofs.walk.printing_order.Given as goal

abbrev pub invariant-loop-s : goal.invariant-loop-s
invariant-loop-s l = IsWalking l.automaton l.fn.root.0 l.states.items l.numbers.items l.stack.items

abbrev pub decreases-loop-s : goal.decreases-loop-s
decreases-loop-s l = length l.stack.items + weight l.automaton 0 l.numbers.items
