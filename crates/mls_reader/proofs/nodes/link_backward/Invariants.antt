use Rattle.std.proofs.Common.{◌≡◌, length, reverse}
use Rattle.mls_reader.specs.steps.Linking.{linked, link_start}
use Rattle.mls_reader.proofs.nodes.link_backward.Given as goal

abbrev pub invariant-loop-piece : goal.invariant-loop-piece
invariant-loop-piece l = linked l.linker (reverse l.backward.items) ≡ linked link_start (reverse l.initial.backward.items)

abbrev pub decreases-loop-piece : goal.decreases-loop-piece
decreases-loop-piece l = length l.backward.items
