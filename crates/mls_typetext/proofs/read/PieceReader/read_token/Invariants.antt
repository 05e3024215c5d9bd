use Rattle.std.proofs.Common.{◌≡◌, length}
use Rattle.mls_lexer.specs.Tokens.{terminal}
use Rattle.mls_typetext.specs.steps.PieceMachine.{advance}
use Rattle.mls_typetext.specs.steps.PieceReaders.{stack_of}
use Rattle.mls_typetext.proofs.read.PieceReader.read_token.Given as goal

abbrev pub invariant-loop-todo : goal.invariant-loop-todo
invariant-loop-todo l =
    advance l.token.start (terminal l.text l.token) (stack_of l.self.stack.items) l.self.pieces.items
    ≡ advance l.token.start (terminal l.text l.token) (stack_of l.initial.self.stack.items) l.initial.self.pieces.items

abbrev pub decreases-loop-todo : goal.decreases-loop-todo
decreases-loop-todo l = length l.self.stack.items
