use Rattle.std.proofs.Common.{rules, ◌≡◌, ◌<◌, ℕ, List, [], Contains, subst, sym, arith}
use Rattle.mls_biunify.specs.steps.Relating.{IsIndexOf}
use Rattle.mls_biunify.proofs.relation.Relation.clear.Goals as goal

pub clear_pairs-requires : goal.clear_pairs-requires
clear_pairs-requires c =
    let same : c.as_slice.result.now ≡ c.self.inside.pairs.items = c.as_slice.ensures.value in
    record { all = subst (λ (pairs : List (ℕ × ℕ)). IsIndexOf pairs c.self.inside.index) (sym same) c.self.invariant }

pub invariant_of-self : goal.invariant_of-self
invariant_of-self c p n =
    let same : c.clear.new.self.items ≡ [] = search rules in (
      λ it. absurd (c.clear_pairs.ensures.none p n it),
      λ it.
          let none : Contains [] (p, n) = subst (λ (pairs : List (ℕ × ℕ)). Contains pairs (p, n)) same it in
          let low : none.0 < 0 = none.1 in
          absurd (omega arith),
    )
