use Rattle.std.proofs.Common.{◌<◌, ◌↔◌, Contains, length, subst, sym}
use Rattle.mls_biunify.specs.steps.TwoWay.{TwoWay, HasPair}
use Rattle.mls_biunify.proofs.TwoWays.{back-set, set-low}
use Rattle.mls_biunify.proofs.edges.Edges.before.Goals as goal

pub returns-clause-members : goal.returns-clause-members
returns-clause-members c n =
    let t : TwoWay = record { forward = c.self.inside.forward.items; backward = c.self.inside.backward.items } in
    subst (λ (x : TwoWay). Contains c.index.result.now n ↔ HasPair x n c.args.p) c.self.view_is
    (back-set t c.self.invariant c.args.p (subst (λ (x : TwoWay). c.args.p < length x.forward) (sym c.self.view_is) c.requires) c.index.result.now c.index.ensures n)

pub returns-clause-low : goal.returns-clause-low
returns-clause-low c n it =
    let t : TwoWay = record { forward = c.self.inside.forward.items; backward = c.self.inside.backward.items } in
    let low : c.args.p < length t.forward = subst (λ (x : TwoWay). c.args.p < length x.forward) (sym c.self.view_is) c.requires in
    subst (λ (x : TwoWay). n < length x.forward) c.self.view_is
    (set-low t c.self.invariant n c.args.p ((back-set t c.self.invariant c.args.p low c.index.result.now c.index.ensures n).0 it)).0
