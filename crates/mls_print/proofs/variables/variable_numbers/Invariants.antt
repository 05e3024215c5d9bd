use Rattle.mls_print.specs.steps.Variables.{HasVariablesTo}
use Rattle.mls_print.proofs.variables.variable_numbers.Given as goal

abbrev pub invariant-loop-k : goal.invariant-loop-k
invariant-loop-k l = HasVariablesTo l.k l.automaton l.order.states.items l.numbers.items
