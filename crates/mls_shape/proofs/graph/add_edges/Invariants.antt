use Rattle.mls_shape.proofs.Graphs.{AddsPlaces}
use Rattle.mls_shape.proofs.graph.add_edges.Given as goal

abbrev pub invariant-loop-place : goal.invariant-loop-place
invariant-loop-place l = AddsPlaces l.source l.children l.place l.fn.edges.items l.edges.items
