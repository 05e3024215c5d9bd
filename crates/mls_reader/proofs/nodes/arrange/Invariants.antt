use Rattle.std.proofs.Common.{◌≡◌, [], ◌++◌, length, reverse}
use Rattle.mls_reader.specs.steps.Arranging.{arrangement}
use Rattle.mls_reader.proofs.nodes.arrange.Given as goal

abbrev pub invariant-loop-piece : goal.invariant-loop-piece
invariant-loop-piece l = l.backward.items ++ arrangement (reverse l.later.items) (reverse l.pieces.items) ≡ arrangement [] (reverse l.initial.pieces.items)

abbrev pub decreases-loop-piece : goal.decreases-loop-piece
decreases-loop-piece l = length l.pieces.items
