use Rattle.std.proofs.Common.{◌∙◌}
use Rattle.mls_scheme.proofs.MetStates.{edges-all, edges-next}
use Rattle.mls_infer.proofs.meets.link.Goals as goal

pub loop-end-preserved : goal.loop-end-preserved
loop-end-preserved c = (
  edges-next c.args.live.now.table c.loop-end.live.table c.edge.new.self.table c.args.state.0 c.as_slice-end-items.result.now c.loop-end.end-index 0 c.loop-end-test.true c.loop-end.invariant.0 c.in_ok-edge.ensures.flows,
  c.in_ok-edge.ensures.states ∙ c.loop-end.invariant.1,
  c.in_ok-edge.ensures.numbers ∙ c.loop-end.invariant.2,
)

pub returns-clause-flows : goal.returns-clause-flows
returns-clause-flows c = edges-all c.args.live.now.table c.loop-end.live.table c.args.state.0 c.as_slice-end-items.result.now c.args.ends.now c.loop-end.end-index c.loop-end-test.false c.as_slice-end-items.ensures.members c.loop-end.invariant.0
