use Rattle.std.proofs.Common.{◌≡◌, length}
use Rattle.mls_typetext.specs.steps.PieceMachine.{last_told}
use Rattle.mls_typetext.specs.steps.PieceReaders.{stack_of}
use Rattle.mls_typetext.proofs.read.PieceReader.finish.Given as goal

abbrev pub invariant-loop-todo : goal.invariant-loop-todo
invariant-loop-todo l = last_told (stack_of l.stack.items) l.pieces.items ≡ last_told (stack_of l.fn.self.stack.items) l.fn.self.pieces.items

abbrev pub decreases-loop-todo : goal.decreases-loop-todo
decreases-loop-todo l = length l.stack.items
