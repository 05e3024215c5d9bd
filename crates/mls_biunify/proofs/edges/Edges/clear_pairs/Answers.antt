use Rattle.std.proofs.Common.{◌↔◌, ℕ, Contains, sym, subst}
use Rattle.mls_biunify.specs.steps.TwoWay.{TwoWay, HasPair}
use Rattle.mls_biunify.proofs.TwoWays.{pair-low}
use Rattle.mls_biunify.proofs.IndexedPairs.{cleared-is, none_left}
use Rattle.mls_biunify.proofs.edges.Edges.clear_pairs.Goals as goal

pub clear_first-requires : goal.clear_first-requires
clear_first-requires c n p it =
    let t : TwoWay = record { forward = c.self.inside.forward.items; backward = c.self.inside.backward.items } in
    (pair-low t c.self.invariant n p (subst (λ (x : TwoWay). HasPair x n p) (sym c.self.view_is) ((c.requires.all n p).1 it))).0

pub clear_second-requires : goal.clear_second-requires
clear_second-requires c n p it =
    let t : TwoWay = record { forward = c.self.inside.forward.items; backward = c.self.inside.backward.items } in
    (pair-low t c.self.invariant n p (subst (λ (x : TwoWay). HasPair x n p) (sym c.self.view_is) ((c.requires.all n p).1 it))).1

pub invariant_of-self : goal.invariant_of-self
invariant_of-self c =
    let t : TwoWay = record { forward = c.self.inside.forward.items; backward = c.self.inside.backward.items } in
    cleared-is t c.self.invariant c.args.pairs.now (subst (λ (x : TwoWay). (n p : ℕ) → HasPair x n p ↔ Contains c.args.pairs.now (n, p)) (sym c.self.view_is) c.requires.all)
    c.clear_first.new.sets.items c.clear_second.new.sets.items c.clear_first.ensures.size c.clear_second.ensures.size c.clear_first.ensures.left c.clear_second.ensures.left c.clear_first.ensures.clear c.clear_second.ensures.clear

pub returns-clause-none : goal.returns-clause-none
returns-clause-none c =
    let t : TwoWay = record { forward = c.self.inside.forward.items; backward = c.self.inside.backward.items } in
    none_left t c.self.invariant c.args.pairs.now (subst (λ (x : TwoWay). (n p : ℕ) → HasPair x n p ↔ Contains c.args.pairs.now (n, p)) (sym c.self.view_is) c.requires.all)
    c.clear_first.new.sets.items c.clear_second.new.sets.items c.clear_first.ensures.size c.clear_second.ensures.size c.clear_first.ensures.left c.clear_second.ensures.left c.clear_first.ensures.clear c.clear_second.ensures.clear
