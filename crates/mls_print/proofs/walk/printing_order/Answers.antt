use Rattle.std.proofs.Common.{◌≡◌, ◌<◌, ◌+◌, ◌++◌, ◌∷◌, [], ◌∙◌, ap, sym, subst, length, reverse, get_or, slice_set, arith, rules, ℕ, List, Some, None}
use Rattle.std.specs.Prelude.{Option}
use Rattle.std.proofs.lemmas.Grind.{common_steps}
use Rattle.mls_automaton.specs.declared.automaton.Head.{Head}
use Rattle.mls_print.specs.Walks.{states_in, states_below}
use Rattle.mls_print.proofs.WalkLoop.{IsWalking, walk_seen, walk_new, walk_ends, taken_low, weight, measure-new, read-none, read-some}
use Rattle.mls_print.proofs.walk.printing_order.Goals as goal

pub loop-s-smaller-in-Continue-branch-4 : goal.loop-s-smaller-in-Continue-branch-4
loop-s-smaller-in-Continue-branch-4 c =
    let a = c.args.automaton.now in
    let numbers : List (Option ℕ) = c.loop-s.numbers.items in
    let before : IsWalking a c.args.root.0 c.loop-s.states.items numbers (c.pop.new.self.items ++ c.in-Some.s ∷ []) = subst (IsWalking a c.args.root.0 c.loop-s.states.items numbers) c.in-Some.ensures.items c.loop-s.invariant in
    let low : c.in-Some.s < length numbers = taken_low a c.args.root.0 c.loop-s.states.items numbers c.pop.new.self.items c.in-Some.s before in
    let new : get_or numbers c.in-Some.s None ≡ None = read-none numbers c.in-Some.s c.index.result.now low c.index.ensures (search rules) in
    let less = measure-new a c.pop.new.self.items c.in-Some.s c.len-then-is_none.result numbers low new in
    let stack : c.push_below.new.stack.items ≡ c.pop.new.self.items ++ reverse (states_below a c.in-Some.s) = c.in_ok-push_below.ensures ∙ ap (λ (h : Head). c.pop.new.self.items ++ reverse (states_in h)) c.head.ensures in
    let P : List ℕ → List ℕ → Type 0 = λ after was. length after + weight a 0 (slice_set numbers c.in-Some.s (Some c.len-then-is_none.result)) < length was + weight a 0 numbers in
    subst (P c.push_below.new.stack.items) (sym c.in-Some.ensures.items) (subst (λ after. P after (c.pop.new.self.items ++ c.in-Some.s ∷ [])) (sym stack) less)

pub loop-s-preserved-in-Continue-branch-4 : goal.loop-s-preserved-in-Continue-branch-4
loop-s-preserved-in-Continue-branch-4 c =
    let a = c.args.automaton.now in
    let numbers : List (Option ℕ) = c.loop-s.numbers.items in
    let before : IsWalking a c.args.root.0 c.loop-s.states.items numbers (c.pop.new.self.items ++ c.in-Some.s ∷ []) = subst (IsWalking a c.args.root.0 c.loop-s.states.items numbers) c.in-Some.ensures.items c.loop-s.invariant in
    let low : c.in-Some.s < length numbers = taken_low a c.args.root.0 c.loop-s.states.items numbers c.pop.new.self.items c.in-Some.s before in
    let new : get_or numbers c.in-Some.s None ≡ None = read-none numbers c.in-Some.s c.index.result.now low c.index.ensures (search rules) in
    let stack : c.push_below.new.stack.items ≡ c.pop.new.self.items ++ reverse (states_below a c.in-Some.s) = c.in_ok-push_below.ensures ∙ ap (λ (h : Head). c.pop.new.self.items ++ reverse (states_in h)) c.head.ensures in
    let size : length c.loop-s.states.items ≡ c.len-then-is_none.result = search rules in
    let P : List ℕ → ℕ → List ℕ → Type 0 = λ order n stack. IsWalking a c.args.root.0 order (slice_set numbers c.in-Some.s (Some n)) stack in
    subst (P c.push.new.self.items c.len-then-is_none.result) (sym stack)
    (subst (λ n. P c.push.new.self.items n (c.pop.new.self.items ++ reverse (states_below a c.in-Some.s))) size
    (subst (λ order. P order (length c.loop-s.states.items) (c.pop.new.self.items ++ reverse (states_below a c.in-Some.s))) (sym c.in_ok-push.ensures.items)
    (walk_new a c.args.root.0 c.requires.closed c.loop-s.states.items numbers c.pop.new.self.items c.in-Some.s before new)))

pub loop-s-preserved : goal.loop-s-preserved
loop-s-preserved c =
    let a = c.args.automaton.now in
    let numbers : List (Option ℕ) = c.loop-s.numbers.items in
    let before : IsWalking a c.args.root.0 c.loop-s.states.items numbers (c.pop.new.self.items ++ c.in-Some.s ∷ []) = subst (IsWalking a c.args.root.0 c.loop-s.states.items numbers) c.in-Some.ensures.items c.loop-s.invariant in
    let low : c.in-Some.s < length numbers = taken_low a c.args.root.0 c.loop-s.states.items numbers c.pop.new.self.items c.in-Some.s before in
    let known = read-some numbers c.in-Some.s c.index.result.now low c.index.ensures (search rules) in
    walk_seen a c.args.root.0 c.loop-s.states.items numbers c.pop.new.self.items c.in-Some.s known.0 before known.1

pub returns-clause-walked : goal.returns-clause-walked
returns-clause-walked c =
    let empty : c.loop-s.stack.items ≡ [] = grind (arith, common_steps) in
    walk_ends c.args.automaton.now c.args.root.0 c.loop-s.states.items c.loop-s.numbers.items
    (subst (IsWalking c.args.automaton.now c.args.root.0 c.loop-s.states.items c.loop-s.numbers.items) empty c.loop-s.invariant)
