use Rattle.mls_infer.proofs.OneState.{state_alone}
use Rattle.mls_infer.proofs.rows.state_of.Goals as goal

pub returns : goal.returns
returns c = state_alone c.args.binder c.args.env.now c.found-state.result c.requires c.found-state.ensures
