use Rattle.std.specs.Prelude.{take}
use Rattle.mls_automaton.specs.steps.Truncating.{AreForgotten}
use Rattle.mls_automaton.proofs.automaton.forget_states.Given as goal

abbrev pub invariant-loop-flow : goal.invariant-loop-flow
invariant-loop-flow l = AreForgotten l.states (take l.flow-index l.flows) l.fn.partners.items l.partners.items
