use Rattle.std.proofs.Common.{◌≡◌}
use Rattle.mls_reader.specs.steps.Linking.{linked, link_start}
use Rattle.mls_reader.proofs.nodes.link.Given as goal

abbrev pub invariant-loop-piece : goal.invariant-loop-piece
invariant-loop-piece l =
    (goal.iterator-loop-piece).can_next l.piece-iterator
    × (goal.iterator-loop-piece).is_finite l.piece-iterator
    × (linked link_start l.fn.pieces.items ≡ linked l.linker l.piece-iterator.rest.items)
