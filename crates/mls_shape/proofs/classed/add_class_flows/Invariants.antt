use Rattle.std.proofs.Common.{take}
use Rattle.mls_shape.specs.steps.Classes.{class_in}
use Rattle.mls_shape.specs.steps.Classed.{IsFlowOfClasses}
use Rattle.mls_shape.specs.steps.Edges.{AddsFlows}
use Rattle.mls_shape.proofs.classed.add_class_flows.Given as goal

-- the edges so far
abbrev pub invariant-loop-flow : goal.invariant-loop-flow
invariant-loop-flow l = AddsFlows l.initial.d l.d (IsFlowOfClasses (class_in l.classes) (take l.flow-index l.flows))
