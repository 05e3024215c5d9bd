use Rattle.mls_biunify.proofs.IndexedPairs.{AreCleared}
use Rattle.mls_biunify.proofs.edges.clear_first.Given as goal

abbrev pub invariant-loop-pair : goal.invariant-loop-pair
invariant-loop-pair l = AreCleared (λ x. x.0) l.pairs l.pair-index l.initial.sets.items l.sets.items
