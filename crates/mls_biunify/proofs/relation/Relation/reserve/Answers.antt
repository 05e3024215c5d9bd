use Rattle.mls_biunify.proofs.IndexedPairs.{index-same}
use Rattle.mls_biunify.proofs.relation.Relation.reserve.Goals as goal

pub invariant_of-self : goal.invariant_of-self
invariant_of-self c = index-same c.self.inside.pairs.items c.reserve.new.self.items c.self.inside.index c.self.inside.index c.self.invariant (λ i j. (λ it. it, λ it. it)) c.reserve.ensures.items

pub invariant_of-self-2 : goal.invariant_of-self-2
invariant_of-self-2 c = index-same c.self.inside.pairs.items c.reserve.new.self.items c.self.inside.index c.self.inside.index c.self.invariant (λ i j. (λ it. it, λ it. it)) c.reserve.ensures.items
