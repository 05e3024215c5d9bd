use Rattle.std.proofs.Common.{◌∙◌}
use Rattle.mls_automaton.specs.steps.Numbers.{number_in}
use Rattle.mls_automaton.proofs.KeptSchemes.{flows-next, flows-all}
use Rattle.mls_automaton.proofs.keep.keep_flows.Goals as goal

pub loop-flow-preserved : goal.loop-flow-preserved
loop-flow-preserved c = (
  flows-next c.args.marks.now (number_in c.args.numbers.now) c.args.flows.now c.loop-flow.flow-index (record { negative = record { 0 = 0 }; positive = record { 0 = 0 } }) c.loop-flow.into c.keep_flow.new.into c.loop-flow-test.true c.loop-flow.invariant.0 c.in_ok-keep_flow.ensures.flows,
  c.in_ok-keep_flow.ensures.states ∙ c.loop-flow.invariant.1,
)

pub returns-clause-flows : goal.returns-clause-flows
returns-clause-flows c = flows-all c.args.marks.now (number_in c.args.numbers.now) c.args.flows.now c.loop-flow.flow-index c.loop-flow.into c.loop-flow-test.false c.loop-flow.invariant.0
