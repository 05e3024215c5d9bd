use Rattle.mls_automaton.specs.declared.automaton.Polarity.TheVariants.{Negative}
use Rattle.mls_scheme.proofs.MetStates.{adds-met, ends-positive, front-state}
use Rattle.mls_scheme.proofs.absorb.add_state.Goals as goal

pub add_flows-requires-clause-ends : goal.add_flows-requires-clause-ends
add_flows-requires-clause-ends c =
    ends-positive c.args.automaton.now c.state.new.self c.args.pair.first.0 c.args.pair.second.0 c.in_ok-head.head c.partners.result.now c.partners-2.result.now c.in_ok-ends.ends
    c.requires.closed c.requires.pair.0 c.requires.pair.1 c.partners.ensures.partners c.partners-2.ensures.partners c.in_ok-ends.ensures c.in_ok-state.ensures.ok

pub returns-clause-met : goal.returns-clause-met
returns-clause-met c =
    adds-met c.args.automaton.now c.state.new.self c.args.pair.first.0 c.args.pair.second.0 c.in_ok-head.head c.partners.result.now c.partners-2.result.now c.in_ok-ends.ends
    c.requires.closed c.requires.pair.0 c.requires.pair.1 c.partners.ensures.partners c.partners-2.ensures.partners c.in_ok-ends.ensures c.in_ok-state.ensures.ok
    c.add_flows.new.automaton c.in_ok-state.state.0 c.head-first.result.now c.head-second.result.now c.head-first.ensures c.head-second.ensures
    c.in_ok-head.ensures.parts c.in_ok-head.ensures.labels c.in_ok-state.ensures.number c.in_ok-add_flows.ensures.states c.in_ok-add_flows.ensures.flows

pub returns-clause-front : goal.returns-clause-front
returns-clause-front c =
    front-state c.args.automaton.now c.state.new.self c.add_flows.new.automaton (record { polarity = Negative; head = c.in_ok-head.head }) c.in_ok-state.state.0
    c.in_ok-state.ensures.ok c.in_ok-state.ensures.number c.in_ok-add_flows.ensures.front

pub returns-in_err-add_flows-clause-front : goal.returns-in_err-add_flows-clause-front
returns-in_err-add_flows-clause-front c =
    front-state c.args.automaton.now c.state.new.self c.add_flows.new.automaton (record { polarity = Negative; head = c.in_ok-head.head }) c.in_ok-state.state.0
    c.in_ok-state.ensures.ok c.in_ok-state.ensures.number c.add_flows.ensures.front
