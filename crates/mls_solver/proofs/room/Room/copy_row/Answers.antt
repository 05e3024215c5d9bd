use Rattle.std.proofs.Common.{◌≡◌, ◌+◌, ◌-◌, ◌<◌, ◌≤◌, ℕ, Contains, refl, sym, ◌∙◌, subst, arith}
use Rattle.mls_solver.specs.Rooms.{Holds}
use Rattle.mls_solver.specs.steps.Growth.{Relates}
use Rattle.mls_solver.specs.steps.Links.{first}
use Rattle.mls_solver.proofs.Walks.{IsWalked, at_place, walk-first, place_there, place_same, walk-more, walk-all}
use Rattle.mls_solver.proofs.room.Room.copy_row.Goals as goal

pub loop-at-init : goal.loop-at-init
loop-at-init c = walk-first first (λ x p n. (p ≡ c.args.to) × (n ≡ x.1)) c.args.self.now c.args.from c.latest_of_positive-at.result c.latest_of_positive-at.ensures

pub pair-requires : goal.pair-requires
pair-requires c =
    let positive : 0 < c.loop-at.at = c.loop-at-test.true in
    let is : c.loop-at.at ≡ (c.loop-at.at - 1) + 1 = omega arith in
    place_there first (λ x p n. (p ≡ c.args.to) × (n ≡ x.1)) c.args.self.now c.loop-at.self c.args.from c.loop-at.at (c.loop-at.at - 1) is c.loop-at.invariant

pub loop-at-preserved : goal.loop-at-preserved
loop-at-preserved c =
    let positive : 0 < c.loop-at.at = c.loop-at-test.true in
    let k : ℕ = c.loop-at.at - 1 in
    let is : c.loop-at.at ≡ k + 1 = omega arith in
    let place : at_place c.loop-at.self k ≡ at_place c.args.self.now k = place_same first (λ x p n. (p ≡ c.args.to) × (n ≡ x.1)) c.args.self.now c.loop-at.self c.args.from c.loop-at.at k is c.loop-at.invariant in
    let read : c.pair.result.1.0 ≡ (at_place c.args.self.now k).1 = λ i. ((c.pair.ensures.pair ∙ place) i).1 in
    walk-more first (λ x p n. (p ≡ c.args.to) × (n ≡ x.1)) c.args.self.now c.loop-at.self c.args.from c.loop-at.at k is c.loop-at.invariant c.add.new.self
    (subst (λ q. Relates c.loop-at.self c.add.new.self (λ p n. (p ≡ c.args.to) × (n ≡ q))) read c.add.ensures)
    c.earlier_of_positive-at.result c.earlier_of_positive-at.ensures

pub returns : goal.returns
returns c =
    let last : c.loop-at.at ≤ 0 = c.loop-at-test.false in
    let none : c.loop-at.at ≡ 0 = omega arith in
    walk-all first (λ x p n. (p ≡ c.args.to) × (n ≡ x.1)) c.args.self.now c.loop-at.self c.args.from (λ p n. (p ≡ c.args.to) × Holds c.args.self.now c.args.from n)
    (subst (λ at. IsWalked first (λ x p n. (p ≡ c.args.to) × (n ≡ x.1)) c.args.self.now c.loop-at.self c.args.from at) none c.loop-at.invariant)
    (λ x there key p n is. (is.0, subst (Contains c.args.self.now.pairs) (λ i. (key i, sym is.1 i)) there))
    (λ p n it. ((c.args.from, n), it.1, refl, (it.0, refl)))
