use Rattle.std.proofs.Common.{subst, sym}
use Rattle.mls_biunify.specs.steps.Relating.{IsIndexOf}
use Rattle.mls_biunify.proofs.relation.Relation.make_room.Goals as goal

pub invariant_of-self : goal.invariant_of-self
invariant_of-self c = subst (IsIndexOf c.self.inside.pairs.items) (sym c.make_room.ensures) c.self.invariant
