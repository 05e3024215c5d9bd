use Rattle.std.proofs.Common.{◌≡◌, ◌++◌, map, take}
use Rattle.mls_automaton.specs.Embeddings.{renamed_state}
use Rattle.mls_automaton.specs.steps.Numbers.{number_in}
use Rattle.mls_automaton.proofs.renumber.push_states.Given as goal

-- those so far stand behind the old ones
abbrev pub invariant-loop-state : goal.invariant-loop-state
invariant-loop-state l = l.into.items ≡ l.fn.into.items ++ map (renamed_state (number_in l.numbers)) (take l.state-index l.states)
