use Rattle.mls_scheme.proofs.MetStates.{front-next, states-next}
use Rattle.mls_scheme.proofs.absorb.add_states.Goals as goal

pub loop-pair-preserved : goal.loop-pair-preserved
loop-pair-preserved c =
    let next =
    states-next c.args.automaton.now c.loop-pair.automaton c.add_state.new.automaton c.args.shared.now c.loop-pair.pair-index c.loop-pair-test.true c.requires.pairs
    c.loop-pair.invariant.0 c.loop-pair.invariant.1 c.loop-pair.invariant.2 c.in_ok-add_state.ensures.met in (
      next.0,
      next.1,
      next.2,
      front-next c.args.automaton.now c.loop-pair.automaton c.add_state.new.automaton c.loop-pair.pair-index c.loop-pair.invariant.2 c.loop-pair.invariant.3 c.in_ok-add_state.ensures.front,
    )
