use Rattle.std.proofs.Common.{◌≡◌, ℕ, List, take, get_or, refl, sym, subst, Contains}
use Rattle.std.proofs.lemmas.List.{take_all, take_more}
use Rattle.mls_layout.specs.Walks.{IsOfAny}
use Rattle.mls_layout.specs.steps.Walking.{Lists}
use Rattle.mls_layout.proofs.MetPairs.{any_none, any_more, lists_as, lists_one}
use Rattle.mls_layout.proofs.walk.push_row.Goals as goal

pub loop-special-init : goal.loop-special-init
loop-special-init c = any_none (λ (x : ℕ) g s. (g ≡ c.args.general) × (s ≡ x)) c.args.into.now

pub loop-special-preserved : goal.loop-special-preserved
loop-special-preserved c =
    let xs : List ℕ = c.args.specials.now in
    let i : ℕ = c.loop-special.special-index in
    let One : ℕ → ℕ → ℕ → Type 0 = λ x g s. (g ≡ c.args.general) × (s ≡ x) in
    subst (λ (ys : List ℕ). Lists (IsOfAny ys One) c.args.into.now c.push.new.self) (sym (take_more xs i 0 c.loop-special-test.true))
    (any_more One (take i xs) (get_or xs i 0) c.args.into.now c.loop-special.into c.push.new.self c.loop-special.invariant (lists_one (c.args.general, get_or xs i 0) c.loop-special.into c.push.new.self c.in_ok-push.ensures.ok))

pub returns : goal.returns
returns c =
    let xs : List ℕ = c.args.specials.now in
    let One : ℕ → ℕ → ℕ → Type 0 = λ x g s. (g ≡ c.args.general) × (s ≡ x) in
    lists_as (IsOfAny xs One) (λ g s. (g ≡ c.args.general) × Contains xs s)
    (λ g s is. (is.2.0, subst (Contains xs) (sym is.2.1) is.1)) (λ g s is. (s, is.1, (is.0, refl))) c.args.into.now c.loop-special.into
    (subst (λ (ys : List ℕ). Lists (IsOfAny ys One) c.args.into.now c.loop-special.into) (take_all c.loop-special.special-index xs c.loop-special-test.false) c.loop-special.invariant)
