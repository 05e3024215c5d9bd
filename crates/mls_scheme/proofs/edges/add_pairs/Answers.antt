use Rattle.std.proofs.Common.{◌∙◌}
use Rattle.mls_scheme.proofs.UsedVariables.{pairs-all, pairs-next}
use Rattle.mls_scheme.proofs.edges.add_pairs.Goals as goal

pub loop-n-preserved : goal.loop-n-preserved
loop-n-preserved c = (
  pairs-next c.args.automaton.now c.loop-n.automaton c.add_flows.new.automaton c.as_slice-n-items.result.now c.args.positive.now c.loop-n.n-index 0 c.loop-n-test.true c.loop-n.invariant.0 c.in_ok-add_flows.ensures.flows,
  c.in_ok-add_flows.ensures.states ∙ c.loop-n.invariant.1,
)

pub returns-clause-flows : goal.returns-clause-flows
returns-clause-flows c =
    pairs-all c.args.automaton.now c.loop-n.automaton c.as_slice-n-items.result.now c.args.negative.now c.args.positive.now c.loop-n.n-index c.loop-n-test.false c.as_slice-n-items.ensures.members c.loop-n.invariant.0
