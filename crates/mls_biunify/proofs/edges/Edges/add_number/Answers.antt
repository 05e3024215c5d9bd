use Rattle.std.proofs.Common.{rules, subst}
use Rattle.mls_biunify.specs.steps.TwoWay.{TwoWay, IsGrown}
use Rattle.mls_biunify.proofs.TwoWays.{two_way-longer, grown-one}
use Rattle.mls_biunify.proofs.edges.Edges.add_number.Goals as goal

pub invariant_of-self-2 : goal.invariant_of-self-2
invariant_of-self-2 c =
    two_way-longer (record { forward = c.self.inside.forward.items; backward = c.self.inside.backward.items }) c.push-2.new.self.items c.push.new.self.items c.self.invariant
    (search rules) (search rules)

pub returns-clause-grown : goal.returns-clause-grown
returns-clause-grown c =
    let t : TwoWay = record { forward = c.self.inside.forward.items; backward = c.self.inside.backward.items } in
    subst (λ (x : TwoWay). IsGrown x (record { forward = c.push-2.new.self.items; backward = c.push.new.self.items })) c.self.view_is
    (grown-one t (record { forward = c.push-2.new.self.items; backward = c.push.new.self.items }) (search rules))
