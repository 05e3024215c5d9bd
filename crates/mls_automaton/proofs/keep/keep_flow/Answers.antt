use Rattle.mls_automaton.specs.steps.Numbers.{number_in}
use Rattle.mls_automaton.proofs.KeptSchemes.{flow-of}
use Rattle.mls_automaton.proofs.keep.keep_flow.Goals as goal

pub returns-clause-flows : goal.returns-clause-flows
returns-clause-flows c =
    flow-of c.args.marks.now (number_in c.args.numbers.now) c.args.flow c.in_ok-negative.negative c.in_ok-positive.positive c.args.into.now c.add_flow.new.self
    c.if-not-marks-flow.false c.if-not-marks-flow-2.false c.in_ok-negative.ensures c.in_ok-positive.ensures c.in_ok-add_flow.ensures.flows
