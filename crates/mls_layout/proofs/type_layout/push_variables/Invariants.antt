use Rattle.std.proofs.Common.{◌≡◌, ◌+◌}
use Rattle.mls_layout.specs.steps.TypeNodes.{AddsVariables}
use Rattle.mls_layout.proofs.type_layout.push_variables.Given as goal

-- the variables of the edges so far
abbrev pub invariant-loop-flow : goal.invariant-loop-flow
invariant-loop-flow l = record {
  next : l.variable ≡ l.first + l.flow-index;
  variables : AddsVariables l.states l.flows l.first l.flow-index l.fn.book l.book l.lists.items;
}
