use Rattle.std.proofs.Common.{◌≡◌, ℕ, length, get_or, false, map, take}
use Rattle.mls_print.specs.Pieces.{is_called}
use Rattle.mls_print.specs.steps.Writing.{piece_of}
use Rattle.mls_print.proofs.write.named_again.Given as goal

abbrev pub invariant-loop-piece : goal.invariant-loop-piece
invariant-loop-piece l =
    (length l.again.items ≡ l.layout.sets)
    × ((j : ℕ) → get_or l.again.items j false ≡ is_called (map piece_of (take l.piece-index l.piece-items)) j)
