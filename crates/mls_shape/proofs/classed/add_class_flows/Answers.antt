use Rattle.mls_shape.specs.steps.Classes.{class_in}
use Rattle.mls_shape.proofs.ClassedSchemes.{flows_next}
use Rattle.mls_shape.proofs.classed.add_class_flows.Goals as goal

pub loop-flow-preserved : goal.loop-flow-preserved
loop-flow-preserved c =
    flows_next (class_in c.args.classes.now) c.args.flows.now c.args.d.now c.loop-flow.flow-index c.loop-flow-test.true (record { negative = record { 0 = 0 }; positive = record { 0 = 0 } })
    c.loop-flow.d c.add_flow.new.self c.class_of-negative.result c.class_of-positive.result c.loop-flow.invariant
    c.in_ok-add_flow.ensures.states c.in_ok-add_flow.ensures.flows c.class_of-negative.ensures c.class_of-positive.ensures
