use Rattle.std.proofs.Common.{◌≡◌, ◌∙◌, ℕ, List, Contains, get_or, refl, subst}
use Rattle.mls_automaton.specs.declared.automaton.Polarity.TheVariants.{Positive, Negative}
use Rattle.mls_automaton.specs.Automata.{HasFlow}
use Rattle.mls_solver.proofs.Relating.{element}
use Rattle.mls_biunify.proofs.Collected.{collected-none, collected-more, collected-all}
use Rattle.mls_biunify.proofs.Copied.{has-kept, flows-given}
use Rattle.mls_biunify.proofs.copy.copy_flows_from.Goals as goal

pub loop-p-init : goal.loop-p-init
loop-p-init c = record {
  states = refl;
  flows = collected-none (λ p (x : ℕ × ℕ). (x.0 ≡ c.args.n.0) × (x.1 ≡ p)) (λ x. HasFlow c.args.copy.now x.0 x.1) c.as_slice-p-items.result.now;
}

pub add_flow-requires-clause-negative : goal.add_flow-requires-clause-negative
add_flow-requires-clause-negative c = has-kept c.args.table.now c.args.copy.now c.loop-p.copy c.loop-p.invariant.states c.requires.states Negative c.args.n.0 c.requires.negative

pub add_flow-requires-clause-positive : goal.add_flow-requires-clause-positive
add_flow-requires-clause-positive c =
    let p : ℕ = get_or c.as_slice-p-items.result.now c.loop-p.p-index 0 in
    let member : Contains c.after.result.now p = subst (λ (xs : List ℕ). Contains xs p) c.as_slice-p-items.ensures.members (element c.as_slice-p-items.result.now c.loop-p.p-index c.loop-p-test.true) in
    has-kept c.args.table.now c.args.copy.now c.loop-p.copy c.loop-p.invariant.states c.requires.states Positive p (c.after.ensures.is.is.positive c.args.n.0 p ((c.after.ensures.partners p).0 member))

pub loop-p-preserved : goal.loop-p-preserved
loop-p-preserved c = record {
  states = c.add_flow.ensures.states ∙ c.loop-p.invariant.states;
  flows =
      collected-more (λ p (x : ℕ × ℕ). (x.0 ≡ c.args.n.0) × (x.1 ≡ p)) (λ x. HasFlow c.args.copy.now x.0 x.1) (λ x. HasFlow c.loop-p.copy x.0 x.1) (λ x. HasFlow c.add_flow.new.self x.0 x.1) c.as_slice-p-items.result.now c.loop-p.p-index 0 c.loop-p-test.true c.loop-p.invariant.flows
      (λ x. c.in_ok-add_flow.ensures.flows x.0 x.1);
}

pub returns : goal.returns
returns c =
    flows-given c.args.table.now c.args.n.0 c.args.copy.now c.loop-p.copy c.loop-p.invariant.states c.after.result.now c.as_slice-p-items.result.now c.as_slice-p-items.ensures.members c.after.ensures.partners
    (collected-all (λ p (x : ℕ × ℕ). (x.0 ≡ c.args.n.0) × (x.1 ≡ p)) (λ x. HasFlow c.args.copy.now x.0 x.1) (λ x. HasFlow c.loop-p.copy x.0 x.1) c.as_slice-p-items.result.now c.loop-p.p-index c.loop-p-test.false c.loop-p.invariant.flows)
