use Rattle.std.proofs.Common.{take}
use Rattle.mls_solver.specs.steps.Solving.{AddsFlows}
use Rattle.mls_solver.proofs.AddedFlows.{ToSome}
use Rattle.mls_solver.proofs.materialise.add_flows_to.Given as goal

abbrev pub invariant-loop-q : goal.invariant-loop-q
invariant-loop-q l = AddsFlows l.initial.solved l.solved (ToSome l.n.0 (take l.q-index l.targets))
