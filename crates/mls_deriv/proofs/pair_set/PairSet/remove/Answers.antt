use Rattle.std.proofs.Common.{◌≡◌, ◌↔◌, ◌||◌, ℕ, List, IsTrue, sym, subst}
use Rattle.std.specs.List.{list_any}
use Rattle.std.specs.BTreeSet.{contains}
use Rattle.mls_deriv.specs.inner.Tables.{HasPair, is_pair, numbers_cmp}
use Rattle.mls_deriv.proofs.PairSets.{both_removed}
use Rattle.mls_deriv.proofs.pair_set.PairSet.remove.Goals as goal

pub returns : goal.returns
returns c = λ k l.
    subst (λ (few : List (ℕ × ℕ)). IsTrue (list_any (is_pair k l) few || contains numbers_cmp c.remove.new.self (k, l)) ↔ (HasPair c.args.self.now k l × ((c.args.left ≡ k) × (c.args.right ≡ l) → ⊥)))
    (sym c.take_out.ensures)
    (both_removed c.args.self.now.few.items c.args.self.now.others c.remove.new.self c.args.left c.args.right c.remove.ensures.updates k l)
