use Rattle.std.proofs.Common.{◌<◌, ◌∙◌, All, length, subst, sym}
use Rattle.mls_biunify.specs.steps.TwoWay.{AreCuts, HasPair, LeavesPairs, TwoWay}
use Rattle.mls_biunify.proofs.CutSets.{cut-is, cut-leaves}
use Rattle.mls_biunify.proofs.edges.Edges.cut.Goals as goal

pub store_sets-requires : goal.store_sets-requires
store_sets-requires c s set it =
    subst (λ (x : TwoWay). s < length x.forward) (sym c.self.view_is) (c.requires.after.low s set it)

pub store_sets-requires-2 : goal.store_sets-requires-2
store_sets-requires-2 c s set it =
    let t : TwoWay = record { forward = c.self.inside.forward.items; backward = c.self.inside.backward.items } in
    subst (λ k. s < k) (sym c.self.invariant.same_length) (subst (λ (x : TwoWay). s < length x.forward) (sym c.self.view_is) (c.requires.before.low s set it))

pub empty_sets-requires : goal.empty_sets-requires
empty_sets-requires c =
    subst (λ k. All (λ s. s < k) c.args.gone.now) (sym c.store_sets.ensures.same_length)
    (subst (λ (x : TwoWay). All (λ s. s < length x.forward) c.args.gone.now) (sym c.self.view_is) c.requires.low)

pub empty_sets-requires-2 : goal.empty_sets-requires-2
empty_sets-requires-2 c =
    subst (λ k. All (λ s. s < k) c.args.gone.now) (sym (c.store_sets-2.ensures.same_length ∙ c.self.invariant.same_length))
    (subst (λ (x : TwoWay). All (λ s. s < length x.forward) c.args.gone.now) (sym c.self.view_is) c.requires.low)

pub invariant_of-self : goal.invariant_of-self
invariant_of-self c =
    let t : TwoWay = record { forward = c.self.inside.forward.items; backward = c.self.inside.backward.items } in
    cut-is t c.self.invariant c.args.gone.now c.args.after.items c.args.before.items
    (subst (λ (x : TwoWay). AreCuts c.args.gone.now (length x.forward) (HasPair x) c.args.after.items) (sym c.self.view_is) c.requires.after)
    (subst (λ (x : TwoWay). AreCuts c.args.gone.now (length x.forward) (λ p n. HasPair x n p) c.args.before.items) (sym c.self.view_is) c.requires.before)
    c.store_sets.new.sets.items c.store_sets-2.new.sets.items c.empty_sets.new.sets.items c.empty_sets-2.new.sets.items
    c.store_sets.ensures c.store_sets-2.ensures c.empty_sets.ensures c.empty_sets-2.ensures

pub returns : goal.returns
returns c =
    let t : TwoWay = record { forward = c.self.inside.forward.items; backward = c.self.inside.backward.items } in
    subst (λ (x : TwoWay). LeavesPairs c.args.gone.now x (record { forward = c.empty_sets.new.sets.items; backward = c.empty_sets-2.new.sets.items })) c.self.view_is
    (cut-leaves t c.self.invariant c.args.gone.now c.args.after.items c.args.before.items
    (subst (λ (x : TwoWay). AreCuts c.args.gone.now (length x.forward) (HasPair x) c.args.after.items) (sym c.self.view_is) c.requires.after)
    (subst (λ (x : TwoWay). AreCuts c.args.gone.now (length x.forward) (λ p n. HasPair x n p) c.args.before.items) (sym c.self.view_is) c.requires.before)
    c.store_sets.new.sets.items c.store_sets-2.new.sets.items c.empty_sets.new.sets.items c.empty_sets-2.new.sets.items
    c.store_sets.ensures c.store_sets-2.ensures c.empty_sets.ensures c.empty_sets-2.ensures)
