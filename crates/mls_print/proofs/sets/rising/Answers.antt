use Rattle.std.proofs.Common.{◌≡◌, ◌↔◌, ℕ, List, Contains, subst, sym}
use Rattle.std.specs.List.{dedup}
use Rattle.std.specs.Prelude.{nat_eq}
use Rattle.std.proofs.lemmas.List.Filters.{dedup_is}
use Rattle.mls_print.specs.steps.Rising.{AreRisingNumbers}
use Rattle.mls_print.proofs.RisingNumbers.{sorted_once, same_members}
use Rattle.mls_print.proofs.sets.rising.Goals as goal

pub returns-clause-rising : goal.returns-clause-rising
returns-clause-rising c =
    let sorted : List ℕ = c.sort_unstable.new.self.items in
    let e : c.dedup.new.self.items ≡ dedup nat_eq sorted = dedup_is nat_eq sorted c.dedup.new.self.items c.dedup.ensures.filtered in
    subst AreRisingNumbers (sym e) (sorted_once c.args.numbers.items sorted c.sort_unstable.ensures.permutation c.sort_unstable.ensures.sorted)

pub returns-clause-members : goal.returns-clause-members
returns-clause-members c = λ x.
    let sorted : List ℕ = c.sort_unstable.new.self.items in
    let e : c.dedup.new.self.items ≡ dedup nat_eq sorted = dedup_is nat_eq sorted c.dedup.new.self.items c.dedup.ensures.filtered in
    subst (λ xs. Contains xs x ↔ Contains c.args.numbers.items x) (sym e) (same_members c.args.numbers.items sorted c.sort_unstable.ensures.permutation x)
