use Rattle.std.proofs.Common.{refl}
use Rattle.mls_biunify.proofs.IndexedPairs.{index-same}
use Rattle.mls_biunify.proofs.relation.Relation.grow.Goals as goal

pub invariant_of-self : goal.invariant_of-self
invariant_of-self c = index-same c.self.inside.pairs.items c.self.inside.pairs.items c.self.inside.index c.grow.new.self c.self.invariant c.grow.ensures.grown.pairs refl
