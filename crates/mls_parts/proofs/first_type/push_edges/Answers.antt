use Rattle.std.proofs.Common.{List, ℕ, take, get_or, sym, subst}
use Rattle.std.proofs.lemmas.List.{take_all, take_more}
use Rattle.mls_automaton.specs.declared.automaton.Polarity.TheVariants.{Negative, Positive}
use Rattle.mls_parts.specs.steps.Twins.{AddsEdgesTo}
use Rattle.mls_parts.proofs.OwnStates.{edges_none, edges_more}
use Rattle.mls_parts.proofs.Twins.{wider_flow, wider_self, wider_then}
use Rattle.mls_parts.proofs.first_type.push_edges.Goals as goal

pub loop-end-init : goal.loop-end-init
loop-end-init c = record { wider = wider_self c.args.automaton.now c.requires.closed; adds = edges_none c.args.automaton.now c.args.from.0 }

pub add_flow-requires-clause-negative : goal.add_flow-requires-clause-negative
add_flow-requires-clause-negative c = c.loop-end.invariant.wider.kept Negative c.args.from.0 c.requires.from

pub add_flow-requires-clause-positive : goal.add_flow-requires-clause-positive
add_flow-requires-clause-positive c = c.loop-end.invariant.wider.kept Positive (get_or c.args.ends.now c.loop-end.end-index 0) (c.requires.ends c.loop-end.end-index 0 c.loop-end-test.true)

pub loop-end-preserved : goal.loop-end-preserved
loop-end-preserved c =
    let ends : List ℕ = c.args.ends.now in
    let end = get_or ends c.loop-end.end-index 0 in
    record {
      wider = wider_then c.args.automaton.now c.loop-end.automaton c.add_flow.new.self c.loop-end.invariant.wider
          (wider_flow c.loop-end.automaton c.add_flow.new.self c.args.from.0 end c.loop-end.invariant.wider.closed c.in_ok-add_flow.ensures.states c.in_ok-add_flow.ensures.flows
          (c.loop-end.invariant.wider.kept Negative c.args.from.0 c.requires.from) (c.loop-end.invariant.wider.kept Positive end (c.requires.ends c.loop-end.end-index 0 c.loop-end-test.true)));
      adds = subst (AddsEdgesTo c.args.automaton.now c.add_flow.new.self c.args.from.0) (sym (take_more ends c.loop-end.end-index 0 c.loop-end-test.true))
          (edges_more c.args.automaton.now c.loop-end.automaton c.add_flow.new.self c.args.from.0 end (take c.loop-end.end-index ends) c.loop-end.invariant.adds c.in_ok-add_flow.ensures.states c.in_ok-add_flow.ensures.flows);
    }

pub returns-clause-adds : goal.returns-clause-adds
returns-clause-adds c =
    subst (AddsEdgesTo c.args.automaton.now c.loop-end.automaton c.args.from.0) (take_all c.loop-end.end-index c.args.ends.now c.loop-end-test.false) c.loop-end.invariant.adds
