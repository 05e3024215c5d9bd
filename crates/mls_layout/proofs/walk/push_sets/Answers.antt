use Rattle.std.proofs.Common.{◌≡◌, ◌<◌, ◌≤◌, ℕ, List, length, take, get_or, refl, sym, subst, Contains}
use Rattle.std.proofs.lemmas.List.{take_all, take_more}
use Rattle.mls_layout.specs.Walks.{IsOfAny, IsOfSets}
use Rattle.mls_layout.specs.steps.Walking.{Lists}
use Rattle.mls_layout.proofs.MetPairs.{any_none, any_more, lists_as}
use Rattle.mls_layout.proofs.walk.push_sets.Goals as goal

pub loop-state-init : goal.loop-state-init
loop-state-init c = any_none (λ (x : ℕ) g s. (g ≡ x) × Contains c.args.special.now s) c.args.into.now

pub loop-state-preserved : goal.loop-state-preserved
loop-state-preserved c =
    let xs : List ℕ = c.args.general.now in
    let items : List ℕ = c.as_slice-state-items.result.now in
    let same : items ≡ xs = c.as_slice-state-items.ensures.members in
    let i : ℕ = c.loop-state.state-index in
    let low : i < length xs = subst (λ (ys : List ℕ). i < length ys) same c.loop-state-test.true in
    let One : ℕ → ℕ → ℕ → Type 0 = λ x g s. (g ≡ x) × Contains c.args.special.now s in
    let row : Lists (One (get_or items i 0)) c.loop-state.into c.push_row.new.into =
    subst (λ (ys : List ℕ). Lists (λ g s. (g ≡ get_or items i 0) × Contains ys s) c.loop-state.into c.push_row.new.into) c.as_slice.ensures.members c.in_ok-push_row.ensures in
    subst (λ (ys : List ℕ). Lists (IsOfAny ys One) c.args.into.now c.push_row.new.into) (sym (take_more xs i 0 low))
    (any_more One (take i xs) (get_or xs i 0) c.args.into.now c.loop-state.into c.push_row.new.into c.loop-state.invariant
    (subst (λ (ys : List ℕ). Lists (One (get_or ys i 0)) c.loop-state.into c.push_row.new.into) same row))

pub returns : goal.returns
returns c =
    let xs : List ℕ = c.args.general.now in
    let One : ℕ → ℕ → ℕ → Type 0 = λ x g s. (g ≡ x) × Contains c.args.special.now s in
    let over = subst (λ (ys : List ℕ). length ys ≤ c.loop-state.state-index) c.as_slice-state-items.ensures.members c.loop-state-test.false in
    lists_as (IsOfAny xs One) (IsOfSets xs c.args.special.now)
    (λ g s is. (subst (Contains xs) (sym is.2.0) is.1, is.2.1)) (λ g s is. (g, is.0, (refl, is.1))) c.args.into.now c.loop-state.into
    (subst (λ (ys : List ℕ). Lists (IsOfAny ys One) c.args.into.now c.loop-state.into) (take_all c.loop-state.state-index xs over) c.loop-state.invariant)
