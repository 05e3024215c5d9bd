use Rattle.std.proofs.Common.{rules, ◌<◌, length}
use Rattle.mls_shape.specs.steps.Registers.{sets_in}
use Rattle.mls_shape.proofs.BuiltStates.{state_added}
use Rattle.mls_shape.proofs.states.states_of.Goals as goal

pub loop-preserved : goal.loop-preserved
loop-preserved c =
    let left : length c.loop.d.states < length (sets_in c.loop.register) = search rules in (
      c.in_ok-add_state.ensures.register,
      state_added c.args.a.now c.requires.closed (sets_in c.args.register.now) (sets_in c.loop.register) (sets_in c.add_state.new.register) c.loop.d c.add_state.new.d
          c.loop.invariant.1 left c.in_ok-add_state.ensures.state,
    )
