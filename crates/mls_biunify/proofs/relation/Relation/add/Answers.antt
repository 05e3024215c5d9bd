use Rattle.std.proofs.Common.{◌≡◌, ◌∙◌, ℕ, List, [], ◌∷◌, ◌++◌, ap, subst}
use Rattle.mls_solver.specs.Rooms.{Room, Holds}
use Rattle.mls_solver.specs.steps.Growth.{Relates}
use Rattle.mls_biunify.proofs.IndexedPairs.{room_with, index-same, index-added, pair-relates, none-relates}
use Rattle.mls_biunify.proofs.relation.Relation.add.Goals as goal

pub returns-then-contains : goal.returns-then-contains
returns-then-contains c =
    none-relates c.args.self.now c.args.positive c.args.negative
    (subst (λ (room : Room). Holds room c.args.positive c.args.negative) c.self.view_is
    ((c.self.invariant c.args.positive c.args.negative).0 (c.contains.ensures.0 c.if-contains.true)))

pub invariant_of-self : goal.invariant_of-self
invariant_of-self c = index-same c.self.inside.pairs.items c.reserve.new.self.items c.self.inside.index c.self.inside.index c.self.invariant (λ i j. (λ it. it, λ it. it)) c.reserve.ensures.items

pub invariant_of-self-in_err-insert : goal.invariant_of-self-in_err-insert
invariant_of-self-in_err-insert c = index-same c.self.inside.pairs.items c.reserve.new.self.items c.self.inside.index c.insert.new.self c.self.invariant c.in_err-insert.ensures.err.pairs c.reserve.ensures.items

pub invariant_of-self-2 : goal.invariant_of-self-2
invariant_of-self-2 c =
    index-added c.self.inside.pairs.items c.self.inside.index c.insert.new.self c.self.invariant c.args.positive c.args.negative c.in_ok-insert.ensures.ok c.push.new.self.items
    (c.in_ok-push.ensures.items ∙ ap (λ (xs : List (ℕ × ℕ)). xs ++ (c.args.positive, c.args.negative) ∷ []) c.reserve.ensures.items)

pub returns : goal.returns
returns c =
    subst (λ (room : Room). Relates room (room_with c.push.new.self.items c.insert.new.self) (λ p n. (p ≡ c.args.positive) × (n ≡ c.args.negative))) c.self.view_is
    (pair-relates c.self.inside.pairs.items c.self.inside.index c.insert.new.self c.self.invariant c.args.positive c.args.negative c.in_ok-insert.ensures.ok c.push.new.self.items
    (c.in_ok-push.ensures.items ∙ ap (λ (xs : List (ℕ × ℕ)). xs ++ (c.args.positive, c.args.negative) ∷ []) c.reserve.ensures.items))
