use Rattle.mls_automaton.specs.declared.automaton.State.{State}
use Rattle.mls_automaton.specs.steps.Numbers.{KeepsOrderInHead, number_in}
use Rattle.mls_automaton.proofs.Renumbered.{at-item}
use Rattle.mls_automaton.proofs.renumber.push_states.Goals as goal

pub renumber_head-requires : goal.renumber_head-requires
renumber_head-requires c =
    at-item (λ (state : State). KeepsOrderInHead (number_in c.args.numbers.now) state.head) c.args.states.now c.state-item.result c.loop-state.state-index c.requires c.state-item.is c.loop-state-test.true
