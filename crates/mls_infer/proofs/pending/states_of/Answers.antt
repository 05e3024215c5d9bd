use Rattle.mls_infer.proofs.OneState.{states_all, states_step}
use Rattle.mls_infer.proofs.pending.states_of.Goals as goal

pub loop-entry-preserved : goal.loop-entry-preserved
loop-entry-preserved c =
    states_step c.args.binder c.args.env.now c.loop-entry.entry-index _ c.loop-entry-test.true c.loop-entry.set c.add_state.new.set c.loop-entry.invariant c.in_ok-add_state.ensures

pub returns : goal.returns
returns c = states_all c.args.binder c.args.env.now c.loop-entry.entry-index c.loop-entry.set c.loop-entry-test.false c.loop-entry.invariant
