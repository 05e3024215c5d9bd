use Rattle.std.proofs.Common.{◌↔◌, IsTrue, subst}
use Rattle.mls_solver.specs.Rooms.{Room, Holds}
use Rattle.mls_biunify.proofs.relation.Relation.holds.Goals as goal

pub returns : goal.returns
returns c =
    subst (λ (room : Room). IsTrue c.contains.result ↔ Holds room c.args.positive.0 c.args.negative.0) c.self.view_is
    (λ it. (c.self.invariant c.args.positive.0 c.args.negative.0).0 (c.contains.ensures.0 it), λ it. c.contains.ensures.1 ((c.self.invariant c.args.positive.0 c.args.negative.0).1 it))
