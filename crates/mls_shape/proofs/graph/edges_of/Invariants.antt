use Rattle.mls_shape.specs.steps.Graphs.{AreEdges}
use Rattle.mls_shape.proofs.graph.edges_of.Given as goal

abbrev pub invariant-loop-s : goal.invariant-loop-s
invariant-loop-s l = AreEdges l.a l.s l.edges.items
