use Rattle.mls_shape.specs.steps.Graphs.{AreParents}
use Rattle.mls_shape.proofs.graph.parents_of.Given as goal

abbrev pub invariant-loop-k : goal.invariant-loop-k
invariant-loop-k l = AreParents l.states l.edges l.k l.parents.items
