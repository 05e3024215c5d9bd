use Rattle.std.proofs.Common.{◌≡◌, ◌+◌, ◌-◌, ◌<◌, ◌≤◌, ℕ, Contains, length, refl, sym, subst, arith}
use Rattle.std.proofs.lemmas.List.{get_or_default}
use Rattle.mls_solver.specs.Rooms.{Holds}
use Rattle.mls_solver.specs.steps.Numbers.{Inserts}
use Rattle.mls_solver.specs.steps.Links.{first, second}
use Rattle.mls_solver.proofs.Walks.{IsMarkWalk, at_place, mark_low, marks-first, marks-more, marks-all}
use Rattle.mls_solver.proofs.room.Room.mark_above.Goals as goal

pub loop-at-init : goal.loop-at-init
loop-at-init c = marks-first second first c.args.self.now c.args.n.0 c.args.marks.now c.latest_of_negative-at.result c.latest_of_negative-at.ensures

pub pair-requires : goal.pair-requires
pair-requires c =
    let positive : 0 < c.loop-at.at = c.loop-at-test.true in
    let is : c.loop-at.at ≡ (c.loop-at.at - 1) + 1 = omega arith in
    mark_low second first c.args.self.now c.args.n.0 c.args.marks.now c.loop-at.marks c.loop-at.at (c.loop-at.at - 1) is c.loop-at.invariant

pub insert-requires : goal.insert-requires
insert-requires c =
    let positive : 0 < c.loop-at.at = c.loop-at-test.true in
    let k : ℕ = c.loop-at.at - 1 in
    let is : c.loop-at.at ≡ k + 1 = omega arith in
    let low : k < length c.args.self.now.pairs = mark_low second first c.args.self.now c.args.n.0 c.args.marks.now c.loop-at.marks c.loop-at.at k is c.loop-at.invariant in
    let x : ℕ × ℕ = at_place c.args.self.now k in
    let there : Contains c.args.self.now.pairs x = (k, low, get_or_default c.args.self.now.pairs k x (0, 0) low) in
    let key : second x ≡ c.args.n.0 = c.loop-at.invariant.here k is in
    let read : c.pair.result.0.0 ≡ x.0 = λ i. (c.pair.ensures.pair i).0 in
    let below : x.0 < c.args.marks.now.limit = c.requires x.0 (subst (Contains c.args.self.now.pairs) (λ i. (x.0, key i)) there) in
    subst (λ n. c.pair.result.0.0 < n) (sym c.loop-at.invariant.inserts.limit) (subst (λ q. q < c.args.marks.now.limit) (sym read) below)

pub loop-at-preserved : goal.loop-at-preserved
loop-at-preserved c =
    let positive : 0 < c.loop-at.at = c.loop-at-test.true in
    let k : ℕ = c.loop-at.at - 1 in
    let is : c.loop-at.at ≡ k + 1 = omega arith in
    let read : c.pair.result.0.0 ≡ (at_place c.args.self.now k).0 = λ i. (c.pair.ensures.pair i).0 in
    marks-more second first c.args.self.now c.args.n.0 c.args.marks.now c.loop-at.marks c.loop-at.at k is c.loop-at.invariant c.insert.new.self
    (subst (λ q. Inserts c.loop-at.marks c.insert.new.self (λ y. y ≡ q)) read c.insert.ensures)
    c.earlier_of_negative-at.result c.earlier_of_negative-at.ensures

pub returns : goal.returns
returns c =
    let last : c.loop-at.at ≤ 0 = c.loop-at-test.false in
    let none : c.loop-at.at ≡ 0 = omega arith in
    marks-all second first c.args.self.now c.args.n.0 c.args.marks.now c.loop-at.marks (λ p. Holds c.args.self.now p c.args.n.0)
    (subst (λ at. IsMarkWalk second first c.args.self.now c.args.n.0 c.args.marks.now c.loop-at.marks at) none c.loop-at.invariant)
    (λ x there key. subst (Contains c.args.self.now.pairs) (λ i. (x.0, key i)) there)
    (λ y it. ((y, c.args.n.0), it, refl, refl))
