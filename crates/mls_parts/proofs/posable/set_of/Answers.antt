use Rattle.std.proofs.Common.{ℕ, List, take, get_or, sym, subst}
use Rattle.std.specs.Ordering.{nat_cmp}
use Rattle.std.proofs.lemmas.List.{take_all, take_more}
use Rattle.mls_layout.specs.steps.Posable.{HasJust}
use Rattle.mls_layout.proofs.KeySets.{just_none, just_more, number_same, number_self}
use Rattle.mls_parts.proofs.posable.set_of.Goals as goal

pub loop-number-init : goal.loop-number-init
loop-number-init c = just_none nat_cmp number_same number_self c.new-set.result c.new-set.ensures.empty

pub loop-number-preserved : goal.loop-number-preserved
loop-number-preserved c =
    let xs : List ℕ = c.args.numbers.now in
    let i : ℕ = c.loop-number.number-index in
    subst (λ (ys : List ℕ). HasJust nat_cmp ys c.insert.new.self) (sym (take_more xs i 0 c.loop-number-test.true))
    (just_more nat_cmp number_same number_self (take i xs) c.loop-number.set c.insert.new.self (get_or xs i 0) c.loop-number.invariant c.in_ok-insert.ensures.updates)

pub returns : goal.returns
returns c =
    subst (λ (ys : List ℕ). HasJust nat_cmp ys c.loop-number.set) (take_all c.loop-number.number-index c.args.numbers.now c.loop-number-test.false) c.loop-number.invariant
