use Rattle.std.proofs.Common.{◌≡◌, take}
use Rattle.mls_automaton.specs.steps.Keeping.{HasFlowsOf}
use Rattle.mls_automaton.specs.steps.Numbers.{number_in}
use Rattle.mls_automaton.proofs.keep.keep_flows.Given as goal

-- the edges so far
abbrev pub invariant-loop-flow : goal.invariant-loop-flow
invariant-loop-flow l = HasFlowsOf l.marks (number_in l.numbers) (take l.flow-index l.flows) l.into × (l.into.states ≡ l.fn.into.states)
