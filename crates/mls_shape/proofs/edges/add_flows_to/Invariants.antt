use Rattle.std.proofs.Common.{take}
use Rattle.mls_shape.specs.steps.Edges.{AddsFlows}
use Rattle.mls_shape.proofs.AddedFlows.{ToSome}
use Rattle.mls_shape.proofs.edges.add_flows_to.Given as goal

abbrev pub invariant-loop-q : goal.invariant-loop-q
invariant-loop-q l = AddsFlows l.initial.d l.d (ToSome l.n.0 (take l.q-index l.targets))
