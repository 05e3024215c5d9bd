use Rattle.std.proofs.Common.{◌≡◌, length, arith, subst}
use Rattle.mls_layout.specs.steps.TypeNodes.{AddsVariables}
use Rattle.mls_layout.proofs.TypeNodes.{variables_none, variables_next}
use Rattle.mls_layout.proofs.type_layout.push_variables.Goals as goal

pub loop-flow-init : goal.loop-flow-init
loop-flow-init c = record {
  next = omega arith;
  variables = variables_none c.args.states c.args.flows.now c.args.first c.args.book.now c.in_ok-lists.lists.items c.in_ok-lists.ensures.length c.in_ok-lists.ensures.none;
}

pub loop-flow-preserved : goal.loop-flow-preserved
loop-flow-preserved c = record {
  next = omega (arith, c.in_ok-variable.ensures);
  variables =
      variables_next c.args.states c.args.flows.now c.args.first c.loop-flow.flow-index _ c.args.book.now c.loop-flow.book c.push.new.self c.loop-flow.lists.items c.add.new.lists.items c.add-in-loop-flow.new.lists.items
      _ c.in_ok-id.id c.loop-flow.invariant.variables c.loop-flow-test.true c.loop-flow.invariant.next c.in_ok-id.ensures.ok c.in_ok-id.ensures.number c.in_ok-add.ensures.length c.in_ok-add.ensures.added
      c.in_ok-add-2.ensures.length c.in_ok-add-2.ensures.added;
}

-- all edges are behind
pub returns : goal.returns
returns c =
    let all : c.loop-flow.flow-index ≡ length c.args.flows.now = omega arith in
    subst (λ n. AddsVariables c.args.states c.args.flows.now c.args.first n c.args.book.now c.loop-flow.book c.loop-flow.lists.items) all c.loop-flow.invariant.variables
