use Rattle.std.proofs.Common.{◌≡◌, ◌<◌, ◌≤◌, ℕ, List, length, take, get_or, sym, subst}
use Rattle.std.proofs.lemmas.List.{take_all, take_more}
use Rattle.mls_layout.specs.steps.Walking.{IsAlikeIn, IsThisAlike, Meets}
use Rattle.mls_layout.proofs.MetPairs.{alike_none, alike_more}
use Rattle.mls_layout.proofs.walk.Met.add_alike.Goals as goal

abbrev Pairs : Type 0
Pairs = List (ℕ × ℕ)

pub loop-pair-init : goal.loop-pair-init
loop-pair-init c = record { marked = c.requires; meets = alike_none c.args.general.now c.args.special.now c.args.self.now.pairs }

pub loop-pair-preserved : goal.loop-pair-preserved
loop-pair-preserved c =
    let xs : Pairs = c.args.pairs.now in
    let items : Pairs = c.as_slice-pair-items.result.now in
    let same : items ≡ xs = c.as_slice-pair-items.ensures in
    let i : ℕ = c.loop-pair.pair-index in
    let low : i < length xs = subst (λ (ys : Pairs). i < length ys) same c.loop-pair-test.true in
    let one : Meets (IsThisAlike c.args.general.now c.args.special.now (get_or xs i (0, 0))) c.loop-pair.self.pairs c.add_if_alike.new.self.pairs =
    subst (λ (ys : Pairs). Meets (IsThisAlike c.args.general.now c.args.special.now (get_or ys i (0, 0))) c.loop-pair.self.pairs c.add_if_alike.new.self.pairs) same c.in_ok-add_if_alike.ensures.meets in
    record {
      marked = c.in_ok-add_if_alike.ensures.marked;
      meets = subst (λ (ys : Pairs). Meets (IsAlikeIn c.args.general.now c.args.special.now ys) c.args.self.now.pairs c.add_if_alike.new.self.pairs) (sym (take_more xs i (0, 0) low))
          (alike_more c.args.general.now c.args.special.now (take i xs) (get_or xs i (0, 0)) c.args.self.now.pairs c.loop-pair.self.pairs c.add_if_alike.new.self.pairs c.loop-pair.invariant.meets one);
    }

pub returns-clause-meets : goal.returns-clause-meets
returns-clause-meets c =
    let xs : Pairs = c.args.pairs.now in
    let over : length xs ≤ c.loop-pair.pair-index = subst (λ (ys : Pairs). length ys ≤ c.loop-pair.pair-index) c.as_slice-pair-items.ensures c.loop-pair-test.false in
    subst (λ (ys : Pairs). Meets (IsAlikeIn c.args.general.now c.args.special.now ys) c.args.self.now.pairs c.loop-pair.self.pairs) (take_all c.loop-pair.pair-index xs over) c.loop-pair.invariant.meets
