use Rattle.std.proofs.Common.{◌≡◌, ℕ, List, Contains, subst}
use Rattle.std.specs.Prelude.{OnOk}
use Rattle.mls_automaton.specs.declared.automaton.Polarity.TheVariants.{Positive}
use Rattle.mls_automaton.specs.Automata.{IsState}
use Rattle.mls_automaton.proofs.Lists.{All-contained}
use Rattle.mls_shape.specs.steps.Edges.{AddsFlows}
use Rattle.mls_shape.proofs.FoundEdges.{sorted_target, flows_sorted}
use Rattle.mls_shape.proofs.edges.add_flows_from.Goals as goal

pub add_flows_to-requires-clause-positive : goal.add_flows_to-requires-clause-positive
add_flows_to-requires-clause-positive c =
    All-contained (IsState c.args.d.now Positive) c.as_slice.result.now
    (λ q there.
    c.requires.positive q
    (sorted_target c.args.a.now c.args.holders.now c.args.members.now c.in_ok-targets.targets.items c.sort_unstable.new.self.items c.in_ok-targets.ensures c.sort_unstable.ensures.permutation q
    (subst (λ (xs : List ℕ). Contains xs q) c.as_slice.ensures.value there)))

pub returns : goal.returns
returns c =
    flows_sorted c.args.a.now c.args.holders.now c.args.n.0 c.args.members.now c.in_ok-targets.targets.items c.sort_unstable.new.self.items c.in_ok-targets.ensures c.sort_unstable.ensures.permutation
    c.args.d.now c.add_flows_to.new.d c.add_flows_to.result
    (subst (λ (xs : List ℕ). OnOk c.add_flows_to.result (AddsFlows c.args.d.now c.add_flows_to.new.d (λ m q. (m ≡ c.args.n.0) × Contains xs q))) c.as_slice.ensures.value c.add_flows_to.ensures)
