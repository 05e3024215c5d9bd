use Rattle.std.proofs.Common.{◌≡◌, ◌↔◌, ℕ, List, Contains, subst, sym}
use Rattle.std.specs.List.{dedup}
use Rattle.std.specs.Prelude.{nat_eq}
use Rattle.std.proofs.lemmas.List.Filters.{dedup_is}
use Rattle.std.proofs.lemmas.List.Sorted.{IsPermutation-sym, Contains-permutation}
use Rattle.std.proofs.lemmas.List.Kept.{Contains-dedup_nat, Contains-from_dedup}
use Rattle.mls_solver.proofs.settle.distinct.Goals as goal

pub returns : goal.returns
returns c =
    let numbers : List ℕ = c.args.numbers.items in
    let sorted : List ℕ = c.sort_unstable.new.self.items in
    let is : c.dedup.new.self.items ≡ dedup nat_eq sorted = dedup_is nat_eq sorted c.dedup.new.self.items c.dedup.ensures.filtered in
    λ j. subst (λ (xs : List ℕ). Contains xs j ↔ Contains numbers j) (sym is) (
      λ it. Contains-permutation sorted numbers j (IsPermutation-sym numbers sorted c.sort_unstable.ensures.permutation) (Contains-from_dedup nat_eq sorted j it),
      λ it. Contains-dedup_nat sorted j (Contains-permutation numbers sorted j c.sort_unstable.ensures.permutation it),
    )
