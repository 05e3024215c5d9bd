use Rattle.std.proofs.Common.{◌≡◌, ◌+◌, ◌<◌, ℕ, List, take, Contains, get_or, sym, subst, arith}
use Rattle.std.proofs.lemmas.List.{take_all, take_more}
use Rattle.mls_automaton.specs.declared.automaton.Polarity.TheVariants.{Positive}
use Rattle.mls_automaton.specs.Automata.{IsState}
use Rattle.mls_parts.specs.declared.pose.Posing.{Posing}
use Rattle.mls_parts.specs.steps.Results.{AddsEdges}
use Rattle.mls_parts.proofs.Posings.{no_edges, edge_more, one_end_more, state_there}
use Rattle.mls_parts.proofs.pose.Posing.push_edges.Goals as goal

pub add_flow-requires-clause-negative : goal.add_flow-requires-clause-negative
add_flow-requires-clause-negative c = state_there c.args.self.now.automaton c.loop-end.self.automaton _ _ c.loop-end.invariant.states c.requires.from

pub add_flow-requires-clause-positive : goal.add_flow-requires-clause-positive
add_flow-requires-clause-positive c =
    state_there c.args.self.now.automaton c.loop-end.self.automaton _ _ c.loop-end.invariant.states
    (subst (IsState c.args.self.now.automaton Positive) (sym c.in_ok-to.ensures) (c.requires.ends c.loop-end.end-index 0 c.loop-end-test.true))

pub loop-end-init : goal.loop-end-init
loop-end-init c = no_edges c.args.self.now _ (λ n s it. let low : it.2.0 < 0 = it.2.1 in absurd (omega arith))

pub loop-end-preserved : goal.loop-end-preserved
loop-end-preserved c =
    let ends : List ℕ = c.args.ends.now in
    let i : ℕ = c.loop-end.end-index in
    let more : Posing = record { automaton = c.add_flow.new.self; goals = c.loop-end.self.goals; roots = c.loop-end.self.roots; binders = c.loop-end.self.binders; needs = c.loop-end.self.needs; copies = c.loop-end.self.copies; results = c.loop-end.self.results } in
    subst (λ (front : List ℕ). AddsEdges c.args.self.now more (λ m r. (m ≡ c.args.from) × (k : ℕ) × Contains front k × (r ≡ c.args.first + k))) (sym (take_more ends i 0 c.loop-end-test.true))
    (edge_more c.args.self.now c.loop-end.self c.add_flow.new.self c.args.from c.in_ok-to.to _ _ c.loop-end.invariant c.in_ok-add_flow.ensures.states c.in_ok-add_flow.ensures.flows
    (one_end_more c.args.from c.args.first c.in_ok-to.to (take i ends) (get_or ends i 0) c.in_ok-to.ensures))

pub returns : goal.returns
returns c =
    subst (λ (front : List ℕ). AddsEdges c.args.self.now c.loop-end.self (λ m r. (m ≡ c.args.from) × (k : ℕ) × Contains front k × (r ≡ c.args.first + k)))
    (take_all c.loop-end.end-index c.args.ends.now c.loop-end-test.false) c.loop-end.invariant
