use Rattle.std.proofs.Common.{◌↔◌, ◌<◌, Contains, subst}
use Rattle.mls_solver.specs.Rooms.{Room, Holds}
use Rattle.mls_biunify.proofs.relation.Relation.below.Goals as goal

pub returns-clause-members : goal.returns-clause-members
returns-clause-members c n =
    subst (λ (room : Room). Contains c.after.result.now n ↔ Holds room c.args.p.0 n) c.self.view_is
    (λ it. (c.self.invariant c.args.p.0 n).0 ((c.after.ensures.members n).0 it), λ it. (c.after.ensures.members n).1 ((c.self.invariant c.args.p.0 n).1 it))

pub returns-clause-low : goal.returns-clause-low
returns-clause-low c n it = subst (λ (room : Room). n < room.negatives) c.self.view_is (c.after.ensures.low n it)
