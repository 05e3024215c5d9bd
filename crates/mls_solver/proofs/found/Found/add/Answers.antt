use Rattle.std.proofs.Common.{◌≡◌, ℕ, sym, subst, rules}
use Rattle.std.specs.Prelude.{◌↔◌}
use Rattle.mls_solver.specs.Rooms.{Room, Holds}
use Rattle.mls_solver.specs.steps.Finding.{HasMember}
use Rattle.mls_solver.specs.steps.Growth.{Relates}
use Rattle.mls_solver.proofs.Finding.{index_more, on_ok}
use Rattle.mls_solver.proofs.found.Found.add.Goals as goal

pub invariant_of-self : goal.invariant_of-self
invariant_of-self c =
    index_more c.self.inside.forward c.add.new.self c.self.inside.above.items c.put.new.sets.items c.args.positive c.args.negative c.in-Ok-true.ensures.pair c.self.invariant
    (on_ok c.put.result _ (search rules) c.put.ensures.more)

pub returns-then-is_ok : goal.returns-then-is_ok
returns-then-is_ok c =
    let is : c.args.self.now ≡ c.self.inside.forward = search rules in
    subst (λ (room : Room). Relates room c.add.new.self (λ p n. (p ≡ c.args.positive) × (n ≡ c.args.negative))) (sym is) c.in-Ok-true.ensures.pair

pub invariant_of-self-in-Ok-false : goal.invariant_of-self-in-Ok-false
invariant_of-self-in-Ok-false c =
    subst (λ (room : Room). (p n : ℕ) → HasMember c.self.inside.above.items n p ↔ Holds room p n) (sym (c.in-Ok-false.ensures.unchanged (search rules))) c.self.invariant
