use Rattle.std.proofs.Common.{◌≡◌, ◌+◌, ◌<◌, ◌≤◌, ℕ, List, ap, sym, subst, arith, length, get_or}
use Rattle.mls_print.specs.steps.Variables.{HasVariablesTo}
use Rattle.mls_print.proofs.VariableNumbers.{numbers_more}
use Rattle.mls_print.proofs.variables.variable_numbers.Goals as goal

pub loop-k-preserved : goal.loop-k-preserved
loop-k-preserved c =
    let a = c.args.automaton.now in
    let order : List ℕ = c.args.order.now.states.items in
    let same : c.deref-s-items.result.now ≡ order = c.deref-s-items.ensures.value in
    let read : get_or c.deref-s-items.result.now c.loop-k.k 0 ≡ get_or order c.loop-k.k 0 = ap (λ xs. get_or xs c.loop-k.k 0) same in
    let low : c.loop-k.k < length order = omega (arith, c.loop-k-test.true, ap length same) in
    subst (HasVariablesTo (c.loop-k.k + 1) a order) (sym c.number_if.ensures)
    (numbers_more a c.requires.closed c.loop-k.k (get_or c.deref-s-items.result.now c.loop-k.k 0) order c.args.order.now.numbers.items c.loop-k.numbers.items c.requires.numbered low read c.loop-k.invariant c.has_variable-has_one.result c.has_variable-has_one.ensures)

pub returns : goal.returns
returns c =
    let same : length c.deref-s-items.result.now ≡ length c.args.order.now.states.items = ap length c.deref-s-items.ensures.value in
    let over : length c.deref-s-items.result.now ≤ c.loop-k.k = c.loop-k-test.false in
    let inside : c.loop-k.k ≤ length c.deref-s-items.result.now = c.loop-k.auto.k-end in
    let all : c.loop-k.k ≡ length c.args.order.now.states.items = omega arith in
    subst (λ i. HasVariablesTo i c.args.automaton.now c.args.order.now.states.items c.loop-k.numbers.items) all c.loop-k.invariant
