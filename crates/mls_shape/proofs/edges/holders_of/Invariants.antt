use Rattle.mls_shape.specs.steps.Edges.{AreHolders}
use Rattle.mls_shape.proofs.edges.holders_of.Given as goal

abbrev pub invariant-loop-u : goal.invariant-loop-u
invariant-loop-u l = AreHolders l.sets l.count l.u l.holders.items
