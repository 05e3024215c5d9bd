use Rattle.std.proofs.Common.{◌≡◌, Bool, true, false, ◌++◌, ◌∷◌, [], ℕ, List, refl, sym, ap, subst, Contains, rules}
use Rattle.std.specs.Prelude.{◌↔◌}
use Rattle.mls_solver.specs.Rooms.{Room}
use Rattle.mls_solver.specs.steps.Finding.{HasMember}
use Rattle.mls_solver.specs.steps.Growth.{Relates}
use Rattle.mls_solver.specs.steps.PairParts.{pairs_view}
use Rattle.mls_solver.proofs.Finding.{by_pairs, held_already, pairs_more, pairs_same, relates_more}
use Rattle.mls_solver.proofs.pairs.Pairs.add.Goals as goal

pub invariant_of-self : goal.invariant_of-self
invariant_of-self c =
    let pushed : c.push.new.self.items ≡ c.self.inside.list.items ++ (c.args.positive, c.args.negative) ∷ [] = search rules in
    subst (λ (list : List (ℕ × ℕ)). (p n : ℕ) → HasMember c.put.new.sets.items p n ↔ Contains list (p, n)) (sym pushed)
    (pairs_more c.self.inside.list.items c.self.inside.below.items c.put.new.sets.items c.args.positive c.args.negative c.self.invariant c.in-Ok-true.ensures.more)

pub returns-then-is_ok-clause-pair : goal.returns-then-is_ok-clause-pair
returns-then-is_ok-clause-pair c =
    let is : c.args.self.now ≡ pairs_view c.self.inside = search rules in
    let pushed : c.push.new.self.items ≡ c.self.inside.list.items ++ (c.args.positive, c.args.negative) ∷ [] = search rules in
    relates_more c.self.inside.list.items c.args.positive c.args.negative c.args.self.now _ (ap (λ (r : Room). r.pairs) is) pushed
    (sym (ap (λ (r : Room). r.positives) is)) (sym (ap (λ (r : Room). r.negatives) is)) (sym (ap (λ (r : Room). r.rows) is)) (sym (ap (λ (r : Room). r.columns) is))

pub invariant_of-self-in-Ok-false : goal.invariant_of-self-in-Ok-false
invariant_of-self-in-Ok-false c =
    pairs_same c.self.inside.list.items c.self.inside.below.items c.put.new.sets.items c.args.positive c.args.negative c.self.invariant c.in-Ok-false.ensures.more
    (c.in-Ok-false.ensures.there.0 (search rules))

pub returns-in-Ok-false-clause-pair : goal.returns-in-Ok-false-clause-pair
returns-in-Ok-false-clause-pair c =
    let is : c.args.self.now ≡ pairs_view c.self.inside = search rules in
    let there : HasMember c.self.inside.below.items c.args.positive c.args.negative = c.in-Ok-false.ensures.there.0 (search rules) in
    subst (λ (room : Room). Relates room (pairs_view c.self.inside) (λ p n. (p ≡ c.args.positive) × (n ≡ c.args.negative))) (sym is)
    (held_already (pairs_view c.self.inside) c.self.inside.list.items refl c.args.positive c.args.negative ((c.self.invariant c.args.positive c.args.negative).0 there))

pub returns-then-is_ok-clause-there : goal.returns-then-is_ok-clause-there
returns-then-is_ok-clause-there c =
    let is : c.self.inside.list.items ≡ c.args.self.now.pairs = search rules in
    let was : c.in-Ok-true.field-0 ≡ true = search rules in
    let there : true ≡ false ↔ HasMember c.self.inside.below.items c.args.positive c.args.negative =
    subst (λ (b : Bool). b ≡ false ↔ HasMember c.self.inside.below.items c.args.positive c.args.negative) was c.in-Ok-true.ensures.there in
    by_pairs c.self.inside.list.items c.args.self.now.pairs is c.args.positive c.args.negative _ _ there (c.self.invariant c.args.positive c.args.negative)

pub returns-in-Ok-false-clause-there : goal.returns-in-Ok-false-clause-there
returns-in-Ok-false-clause-there c =
    let is : c.self.inside.list.items ≡ c.args.self.now.pairs = search rules in
    let was : c.in-Ok-false.field-0 ≡ false = search rules in
    let there : false ≡ false ↔ HasMember c.self.inside.below.items c.args.positive c.args.negative =
    subst (λ (b : Bool). b ≡ false ↔ HasMember c.self.inside.below.items c.args.positive c.args.negative) was c.in-Ok-false.ensures.there in
    by_pairs c.self.inside.list.items c.args.self.now.pairs is c.args.positive c.args.negative _ _ there (c.self.invariant c.args.positive c.args.negative)
