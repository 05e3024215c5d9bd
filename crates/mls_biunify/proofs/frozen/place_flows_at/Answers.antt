use Rattle.std.proofs.Common.{◌∙◌, ℕ, List, Contains, get_or, refl, subst}
use Rattle.mls_automaton.specs.Automata.{HasFlow}
use Rattle.mls_solver.proofs.Relating.{element}
use Rattle.mls_biunify.specs.steps.Placing.{IsFlowTo}
use Rattle.mls_biunify.proofs.Collected.{collected-none, collected-more, collected-all}
use Rattle.mls_biunify.proofs.PlacedStates.{flow-may_place, flows-placed, number-there}
use Rattle.mls_biunify.proofs.frozen.place_flows_at.Goals as goal

pub after-requires : goal.after-requires
after-requires c = number-there c.args.table.now c.args.numbers.now c.args.place c.requires.there c.requires.low

pub loop-target-init : goal.loop-target-init
loop-target-init c = record {
  states = refl;
  flows = collected-none (IsFlowTo c.args.numbers.now c.args.place) (λ x. HasFlow c.args.into.now x.0 x.1) c.as_slice-target-items.result.now;
}

pub place_flow-requires-clause-ends : goal.place_flow-requires-clause-ends
place_flow-requires-clause-ends c =
    let p : ℕ = get_or c.as_slice-target-items.result.now c.loop-target.target-index 0 in
    let member : Contains c.after.result.now p = subst (λ (xs : List ℕ). Contains xs p) c.as_slice-target-items.ensures.members (element c.as_slice-target-items.result.now c.loop-target.target-index c.loop-target-test.true) in
    flow-may_place c.args.table.now c.after.ensures.is c.args.numbers.now c.args.into.now c.loop-target.into c.loop-target.invariant.states c.requires.places c.args.place c.requires.low p ((c.after.ensures.partners p).0 member)

pub loop-target-preserved : goal.loop-target-preserved
loop-target-preserved c = record {
  states = c.in_ok-place_flow.ensures.states ∙ c.loop-target.invariant.states;
  flows =
      collected-more (IsFlowTo c.args.numbers.now c.args.place) (λ x. HasFlow c.args.into.now x.0 x.1) (λ x. HasFlow c.loop-target.into x.0 x.1) (λ x. HasFlow c.place_flow.new.into x.0 x.1) c.as_slice-target-items.result.now c.loop-target.target-index 0 c.loop-target-test.true c.loop-target.invariant.flows
      c.in_ok-place_flow.ensures.flows;
}

pub returns : goal.returns
returns c =
    flows-placed c.args.table.now c.args.numbers.now c.args.place c.requires.low c.args.into.now c.loop-target.into c.loop-target.invariant.states c.after.result.now c.as_slice-target-items.result.now c.as_slice-target-items.ensures.members c.after.ensures.partners
    (collected-all (IsFlowTo c.args.numbers.now c.args.place) (λ x. HasFlow c.args.into.now x.0 x.1) (λ x. HasFlow c.loop-target.into x.0 x.1) c.as_slice-target-items.result.now c.loop-target.target-index c.loop-target-test.false c.loop-target.invariant.flows)
