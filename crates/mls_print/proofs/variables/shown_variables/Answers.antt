use Rattle.std.proofs.Common.{◌≡◌, ◌↔◌, ◌∙◌, ◌<◌, ℕ, List, All, Contains, None, ap, map, sym, subst, arith, length, get_or}
use Rattle.std.specs.Prelude.{Option}
use Rattle.std.specs.List.{filter_map}
use Rattle.mls_automaton.proofs.Lists.{All-contained}
use Rattle.mls_print.proofs.VariableNumbers.{candidate_low, numbers_low, shown_places}
use Rattle.mls_print.proofs.variables.shown_variables.Goals as goal

pub numbers_of-requires : goal.numbers_of-requires
numbers_of-requires c =
    All-contained (λ s. s < length c.args.numbers.now) c.as_slice.result.now
    (λ s it.
    let low = candidate_low c.args.automaton.now c.requires.closed c.args.order.now.states.items c.args.polarity c.args.set.now s c.requires.states ((c.in_ok-candidates.ensures s).0 (subst (λ xs. Contains xs s) c.as_slice.ensures.value it)) in
    omega (arith, low, c.requires.variables.size))

pub states_of-requires : goal.states_of-requires
states_of-requires c =
    let a = c.args.automaton.now in
    let order : List ℕ = c.args.order.now.states.items in
    let candidates : List ℕ = c.in_ok-candidates.candidates.items in
    let ks : List ℕ = c.rising-shown.result.items in
    let h : ℕ → Option ℕ = λ s. get_or c.args.numbers.now s None in
    let found : c.in_ok-numbers_of.field-0.items ≡ filter_map h candidates = c.in_ok-numbers_of.ensures ∙ ap (filter_map h) c.as_slice.ensures.value in
    let low : All (λ k. k < length order) ks =
    numbers_low a c.requires.closed order c.args.numbers.now c.requires.variables c.args.polarity c.args.set.now c.requires.states candidates c.in_ok-candidates.ensures ks
    (λ k. subst (λ xs. Contains ks k ↔ Contains xs k) found (c.rising-shown.ensures.members k)) in
    let L : List ℕ → List ℕ → Type 0 = λ order ks. All (λ k. k < length order) ks in
    subst (λ order. L order c.as_slice-3.result.now) (sym c.as_slice-2.ensures.value) (subst (L order) (sym c.as_slice-3.ensures.value) low)

pub returns : goal.returns
returns c =
    let a = c.args.automaton.now in
    let order : List ℕ = c.args.order.now.states.items in
    let candidates : List ℕ = c.in_ok-candidates.candidates.items in
    let ks : List ℕ = c.rising-shown.result.items in
    let h : ℕ → Option ℕ = λ s. get_or c.args.numbers.now s None in
    let found : c.in_ok-numbers_of.field-0.items ≡ filter_map h candidates = c.in_ok-numbers_of.ensures ∙ ap (filter_map h) c.as_slice.ensures.value in
    c.in_ok-variables.ensures
    ∙ ((λ i. map (λ k. get_or (c.as_slice-2.ensures.value i) k 0) (c.as_slice-3.ensures.value i))
    ∙ shown_places a c.requires.closed order c.args.numbers.now c.requires.variables c.args.polarity c.args.set.now c.requires.states candidates c.in_ok-candidates.ensures ks
    (λ k. subst (λ xs. Contains ks k ↔ Contains xs k) found (c.rising-shown.ensures.members k)) c.rising-shown.ensures.rising)
