use Rattle.mls_automaton.specs.declared.automaton.Polarity.TheVariants.{Positive, Negative}
use Rattle.mls_solver.proofs.AddedFlows.{states-stay, targets-none, targets-more, targets-all}
use Rattle.mls_solver.proofs.materialise.add_flows_to.Goals as goal

pub loop-q-init : goal.loop-q-init
loop-q-init c = targets-none c.args.solved.now c.args.n.0 c.args.targets.now

pub add_flow-requires-clause-negative : goal.add_flow-requires-clause-negative
add_flow-requires-clause-negative c = states-stay c.args.solved.now c.loop-q.solved c.loop-q.invariant.states Negative c.args.n.0 c.requires.negative

pub add_flow-requires-clause-positive : goal.add_flow-requires-clause-positive
add_flow-requires-clause-positive c = states-stay c.args.solved.now c.loop-q.solved c.loop-q.invariant.states Positive _ (c.requires.positive c.loop-q.q-index 0 c.loop-q-test.true)

pub loop-q-preserved : goal.loop-q-preserved
loop-q-preserved c = targets-more c.args.solved.now c.loop-q.solved c.add_flow.new.self c.args.n.0 c.args.targets.now c.loop-q.q-index c.loop-q-test.true c.loop-q.invariant c.in_ok-add_flow.ensures.states c.in_ok-add_flow.ensures.flows

pub returns : goal.returns
returns c = targets-all c.args.solved.now c.loop-q.solved c.args.n.0 c.args.targets.now c.loop-q.q-index c.loop-q-test.false c.loop-q.invariant
