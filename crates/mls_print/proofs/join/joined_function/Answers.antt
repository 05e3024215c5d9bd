use Rattle.std.proofs.Common.{◌≡◌, ◌≤◌, ◌∙◌, ℕ, List, ap, subst, rules, length, true, false}
use Rattle.std.specs.Prelude.{is_some}
use Rattle.std.specs.List.{flat_map, list_any}
use Rattle.std.proofs.lemmas.List.{take_all}
use Rattle.mls_automaton.specs.Automata.{head_at}
use Rattle.mls_automaton.specs.Heads.{IsSameSet}
use Rattle.mls_print.specs.steps.Flat.{domain_in, codomain_in}
use Rattle.mls_print.proofs.FlatHeads.{no_function_joined, function_joined}
use Rattle.mls_print.proofs.join.joined_function.Goals as goal

pub returns-then-not-has_function : goal.returns-then-not-has_function
returns-then-not-has_function c =
    let none : list_any (λ s. is_some (head_at c.args.automaton.now s).function) c.args.set.now ≡ false = search rules in
    no_function_joined c.args.automaton.now c.args.set.now none

pub returns : goal.returns
returns c =
    let set : List ℕ = c.args.set.now in
    let some : list_any (λ s. is_some (head_at c.args.automaton.now s).function) set ≡ true = search rules in
    let over : length set ≤ c.loop-s.s-index = search rules in
    let domain : c.loop-s.domain.items ≡ flat_map (λ s. domain_in (head_at c.args.automaton.now s).function) set = c.loop-s.invariant.0 ∙ ap (flat_map (λ s. domain_in (head_at c.args.automaton.now s).function)) (take_all c.loop-s.s-index set over) in
    let codomain : c.loop-s.codomain.items ≡ flat_map (λ s. codomain_in (head_at c.args.automaton.now s).function) set = c.loop-s.invariant.1 ∙ ap (flat_map (λ s. codomain_in (head_at c.args.automaton.now s).function)) (take_all c.loop-s.s-index set over) in
    function_joined c.args.automaton.now set c.rising.result.items c.rising-2.result.items some
    (subst (λ xs. IsSameSet xs c.rising.result.items) domain ((λ s. (c.rising.ensures.members s).1), (λ s. (c.rising.ensures.members s).0)))
    (subst (λ xs. IsSameSet xs c.rising-2.result.items) codomain ((λ s. (c.rising-2.ensures.members s).1), (λ s. (c.rising-2.ensures.members s).0)))
