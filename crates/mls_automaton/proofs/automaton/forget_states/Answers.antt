use Rattle.mls_automaton.proofs.Truncated.{forgotten-next}
use Rattle.mls_automaton.proofs.automaton.forget_states.Goals as goal

pub loop-flow-preserved : goal.loop-flow-preserved
loop-flow-preserved c =
    forgotten-next c.args.states c.args.flows.now c.loop-flow.flow-index (record { negative = record { 0 = 0 }; positive = record { 0 = 0 } })
    c.args.partners.now.items c.loop-flow.partners.items c.forget_flow.new.partners.items c.loop-flow-test.true c.loop-flow.invariant c.forget_flow.ensures
