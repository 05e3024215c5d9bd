use Rattle.std.proofs.Common.{◌<◌, length, set, sym, subst}
use Rattle.mls_biunify.specs.steps.TwoWay.{TwoWay, RemovesPair}
use Rattle.mls_biunify.proofs.TwoWays.{pair_gone-removes, pair_gone-is}
use Rattle.mls_biunify.proofs.edges.Edges.remove.Goals as goal

pub invariant_of-self : goal.invariant_of-self
invariant_of-self c =
    let t : TwoWay = record { forward = c.self.inside.forward.items; backward = c.self.inside.backward.items } in
    pair_gone-is t c.self.invariant c.args.n c.args.p
    (subst (λ (x : TwoWay). c.args.n < length x.forward) (sym c.self.view_is) c.requires.first)
    (subst (λ (x : TwoWay). c.args.p < length x.forward) (sym c.self.view_is) c.requires.second)
    c.index_mut.result.now c.remove.new.self c.index_mut-2.result.now c.remove-2.new.self
    c.index_mut.ensures.value c.remove.ensures.members c.index_mut-2.ensures.value c.remove-2.ensures.members

pub returns : goal.returns
returns c =
    let t : TwoWay = record { forward = c.self.inside.forward.items; backward = c.self.inside.backward.items } in
    subst (λ (x : TwoWay). RemovesPair x (record { forward = set t.forward c.args.n c.remove.new.self; backward = set t.backward c.args.p c.remove-2.new.self }) c.args.n c.args.p) c.self.view_is
    (pair_gone-removes t c.self.invariant c.args.n c.args.p
    (subst (λ (x : TwoWay). c.args.n < length x.forward) (sym c.self.view_is) c.requires.first)
    (subst (λ (x : TwoWay). c.args.p < length x.forward) (sym c.self.view_is) c.requires.second)
    c.index_mut.result.now c.remove.new.self c.index_mut-2.result.now c.remove-2.new.self
    c.index_mut.ensures.value c.remove.ensures.members c.index_mut-2.ensures.value c.remove-2.ensures.members)
