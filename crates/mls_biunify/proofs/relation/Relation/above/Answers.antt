use Rattle.std.proofs.Common.{◌↔◌, ◌<◌, Contains, subst}
use Rattle.mls_solver.specs.Rooms.{Room, Holds}
use Rattle.mls_biunify.proofs.relation.Relation.above.Goals as goal

pub returns-clause-members : goal.returns-clause-members
returns-clause-members c p =
    subst (λ (room : Room). Contains c.before-2.result.now p ↔ Holds room p c.args.n.0) c.self.view_is
    (λ it. (c.self.invariant p c.args.n.0).0 ((c.before-2.ensures.members p).0 it), λ it. (c.before-2.ensures.members p).1 ((c.self.invariant p c.args.n.0).1 it))

pub returns-clause-low : goal.returns-clause-low
returns-clause-low c p it = subst (λ (room : Room). p < room.positives) c.self.view_is (c.before-2.ensures.low p it)
