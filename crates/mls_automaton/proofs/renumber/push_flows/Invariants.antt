use Rattle.std.proofs.Common.{◌≡◌, ◌++◌, map, take}
use Rattle.mls_automaton.specs.Embeddings.{renamed_flow}
use Rattle.mls_automaton.specs.steps.Numbers.{number_in}
use Rattle.mls_automaton.proofs.renumber.push_flows.Given as goal

-- those so far stand behind the old ones
abbrev pub invariant-loop-flow : goal.invariant-loop-flow
invariant-loop-flow l = l.into.items ≡ l.fn.into.items ++ map (renamed_flow (number_in l.numbers)) (take l.flow-index l.flows)
