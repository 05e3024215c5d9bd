use Rattle.std.proofs.Common.{◌∙◌}
use Rattle.mls_automaton.specs.Automata.{flow}
use Rattle.mls_shape.proofs.KeptFlows.{added-next, added-all}
use Rattle.mls_shape.proofs.drop.add_each.Goals as goal

pub loop-edge-preserved : goal.loop-edge-preserved
loop-edge-preserved c = (
  added-next c.args.automaton.now c.loop-edge.automaton c.add_flow.new.self c.args.flows.now c.loop-edge.edge-index (flow 0 0)
      c.loop-edge-test.true c.loop-edge.invariant.0 c.in_ok-add_flow.ensures.flows,
  c.in_ok-add_flow.ensures.states ∙ c.loop-edge.invariant.1,
)

pub returns-clause-flows : goal.returns-clause-flows
returns-clause-flows c =
    added-all c.args.automaton.now c.loop-edge.automaton c.args.flows.now c.loop-edge.edge-index c.loop-edge-test.false
    c.loop-edge.invariant.0
