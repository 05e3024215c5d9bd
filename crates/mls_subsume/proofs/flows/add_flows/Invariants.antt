use Rattle.std.proofs.Common.{◌≡◌, ◌++◌, map, take}
use Rattle.mls_automaton.specs.Automata.{flow}
use Rattle.mls_subsume.proofs.flows.add_flows.Given as goal

abbrev pub invariant-loop-negative : goal.invariant-loop-negative
invariant-loop-negative l = l.flows ≡ l.fn.flows ++ map (λ n. flow n l.positive.0) (take l.negative-index l.negatives)
