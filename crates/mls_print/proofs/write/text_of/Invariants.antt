use Rattle.std.proofs.Common.{get_or, false, map}
use Rattle.mls_print.specs.steps.Writing.{piece_of}
use Rattle.mls_print.proofs.WritingLoop.{IsWriting}
use Rattle.mls_print.proofs.write.text_of.Given as goal

abbrev pub invariant-loop-piece : goal.invariant-loop-piece
invariant-loop-piece l = IsWriting (λ j. get_or l.recursive.items j false) (map piece_of l.piece-items) l.piece-index l.fn.states l.layout.sets l.writer
